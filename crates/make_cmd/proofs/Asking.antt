-- What may be asked: the four names differ, and the list of the made texts may be asked too.
use Rattle.std.proofs.Common.{ℕ, zero, suc, ◌≢◌, List, [], ◌∷◌, refl, sym, arith}
use Rattle.std.specs.Prelude.{All}
use Rattle.find_cmd.specs.Asked.{IsAsked as IsListAsked}
use Rattle.make_cmd.specs.Asked.{IsAsked, finding_of}
use Rattle.requests.specs.Asked.{MakeAsked}

all-two : (P : List ℕ → Type 0) (one other : List ℕ) → P one → P other → All P (one ∷ other ∷ [])
all-two P one other first second zero d low = first
all-two P one other first second (suc zero) d low = second
all-two P one other first second (suc (suc i)) d low = absurd (omega (arith, low))

module _ (asked : MakeAsked) (may : IsAsked asked) where
  pub log-report : asked.listing.log ≢ asked.listing.report
  log-report = may.apart 0 1 [] (omega arith) (omega arith)

  pub design-log : asked.design ≢ asked.listing.log
  design-log e = may.apart 0 2 [] (omega arith) (omega arith) (sym e)

  pub trace-log : asked.trace ≢ asked.listing.log
  trace-log e = may.apart 0 3 [] (omega arith) (omega arith) (sym e)

  pub design-report : asked.design ≢ asked.listing.report
  design-report e = may.apart 1 2 [] (omega arith) (omega arith) (sym e)

  pub trace-report : asked.trace ≢ asked.listing.report
  trace-report e = may.apart 1 3 [] (omega arith) (omega arith) (sym e)

  pub design-trace : asked.design ≢ asked.trace
  design-trace = may.apart 2 3 [] (omega arith) (omega arith)

  pub trace-design : asked.trace ≢ asked.design
  trace-design e = design-trace (sym e)

  pub list-asked : IsListAsked (finding_of asked)
  list-asked = record {
    traces = (omega arith, omega arith);
    listing = may.listing;
    apart = log-report;
    own_log = all-two (λ name. name ≢ asked.listing.log) asked.design asked.trace design-log trace-log;
    own_report = all-two (λ name. name ≢ asked.listing.report) asked.design asked.trace design-report trace-report;
    no_waves = λ i d low. tt;
    log_beside = refl;
    report_beside = refl;
  }
