-- What is asked with a session, and without.
use Rattle.std.proofs.Common.{◌≡◌, Option, Some, None, ap, sym, ◌∙◌}
use Rattle.requests.specs.Asked.{FindAsked, SessionNames}
use Rattle.find_cmd.specs.Asked.{IsAsked}
use Rattle.find_cmd.specs.Views.{with_resume}

-- what is asked has its session
pub with-same : (asked : FindAsked) (resume : Option SessionNames) → asked.resume ≡ resume → with_resume resume asked ≡ asked
with-same asked resume is = ap (λ (r : Option SessionNames). with_resume r asked) (sym is)

-- a request that differs from what is asked by the session alone
pub with-again : (one asked : FindAsked) (resume : Option SessionNames) → one ≡ with_resume None asked → asked.resume ≡ resume
    → with_resume resume one ≡ asked
with-again one asked resume same is = ap (λ (a : FindAsked). with_resume resume a) same ∙ with-same asked resume is

-- without the session as much may be asked
pub may-alone : (asked : FindAsked) → IsAsked asked → IsAsked (with_resume None asked)
may-alone asked may = record {
  traces = may.traces;
  listing = may.listing;
  apart = may.apart;
  own_log = may.own_log;
  own_report = may.own_report;
  no_waves = may.no_waves;
  log_beside = may.log_beside;
  report_beside = may.report_beside;
}
