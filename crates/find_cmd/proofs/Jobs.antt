-- What is asked of a list is a job that can be done.
use Rattle.std.proofs.Common.{◌≡◌, ◌≤◌, [], List, length, ap, subst, sym, ◌∙◌, arith}
use Rattle.std.specs.Prelude.{All}
use Rattle.loc_base.specs.declared.digest.Digest.{Digest}
use Rattle.clause_base.specs.declared.log.Step.{Step}
use Rattle.debug_core.specs.Debugging.{Begins, DebugState}
use Rattle.debug_core.specs.Problems.{IsProblem, Problem}
use Rattle.design_core.specs.declared.values.SetWithValues.{SetWithValues}
use Rattle.list_writer.specs.declared.job.Job.{Job}
use Rattle.list_writer.specs.Asked.{Asked as Listing, Session, no_session}
use Rattle.list_writer.specs.Found.{IsShown}
use Rattle.list_writer.specs.Jobs.{GoesWith, IsJob, asked_of, asked_with, session_of}
use Rattle.list_writer.proofs.Sessions.{begins-with, goes-with-own}
use Rattle.find_cmd.specs.Asked.{IsAsked}
use Rattle.requests.specs.Asked.{FindAsked}
use Rattle.find_cmd.specs.Finding.{listing_of}
use Rattle.find_cmd.specs.Parts.{most_kept}

pub job-held : (asked : FindAsked) (problem : Problem) (inputs : Digest) (session : Session) → IsAsked asked → IsProblem problem
    → All (IsShown problem) session.sets → length session.sets ≤ most_kept → length session.log ≤ most_kept
    → IsJob (listing_of asked problem inputs session)
job-held asked problem inputs session may is shown few_sets few_steps =
    let units = may.listing.budget.1 in
    let sets = may.listing.sets.1 in
    record {
      can = record {
        problem = is;
        some_sets = may.listing.sets.0;
        apart = may.apart;
        own_log = may.no_waves 1 [] (omega arith);
        own_report = may.no_waves 2 [] (omega arith);
        log_beside = may.log_beside;
        report_beside = may.report_beside;
      };
      session = shown;
      few = omega (arith, units, sets, few_sets, few_steps);
      kinds = record { some = may.listing.some_kinds; once = may.listing.kinds_once };
    }

-- ---- of a session
abbrev with_session : Session → Listing → Listing
with_session session asked = record {
  problem = asked.problem;
  session = session;
  budget = asked.budget;
  sets = asked.sets;
  log = asked.log;
  report = asked.report;
  waves = asked.waves;
  checkpoints = asked.checkpoints;
  inputs = asked.inputs;
  top = asked.top;
  clock = asked.clock;
  kinds = asked.kinds;
}

-- a job's listing that goes on from a session, by what it asks without
pub job-with : (job : Job) (asked : FindAsked) (problem : Problem) (inputs : Digest) (session : Session)
    → asked_of job ≡ listing_of asked problem inputs no_session → asked_with job session ≡ listing_of asked problem inputs session
job-with job asked problem inputs session is = ap (with_session session) is

-- ---- of none
no-session : (found : List SetWithValues) (s : DebugState) → found ≡ [] → s.log ≡ [] → session_of found s ≡ no_session
no-session found s none no_step =
    ap (λ (sets : List SetWithValues). record { sets = sets; log = s.log }) none
    ∙ ap (λ (log : List Step). record { sets = []; log = log }) no_step

-- a search that has just begun, with no set, goes on from no session
pub begun-alone : (p : Problem) (found : List SetWithValues) (s : DebugState) → found ≡ [] → Begins p s → session_of found s ≡ no_session
begun-alone p found s none begins = no-session found s none begins.no_step

pub begun-goes : (p : Problem) (found : List SetWithValues) (s : DebugState) → found ≡ [] → Begins p s
    → GoesWith p (session_of found s) s
begun-goes p found s none begins =
    subst (λ (sets : List SetWithValues). GoesWith p (session_of sets s) s) (sym none)
    (goes-with-own p no_session s (begins-with p s begins))

-- and its job can be done
pub begun-held : (asked : FindAsked) (problem : Problem) (inputs : Digest) (session : Session) → session ≡ no_session → IsAsked asked
    → IsProblem problem → IsJob (listing_of asked problem inputs session)
begun-held asked problem inputs session none may is =
    subst (λ (s : Session). IsJob (listing_of asked problem inputs s)) (sym none)
    (job-held asked problem inputs no_session may is (λ k d low. absurd (omega (arith, low))) (omega arith) (omega arith))
