-- What a search goes on from, where a listing begins: from no session, or from one.
use Rattle.std.proofs.Common.{◌≡◌, List, length, map, ℕ, refl, ap, sym, ◌∙◌}
use Rattle.clause_base.specs.declared.log.Step.{Step}
use Rattle.design_core.specs.declared.values.SetWithValues.{SetWithValues}
use Rattle.debug_core.specs.Debugging.{Begins, DebugState}
use Rattle.debug_core.specs.Problems.{Problem}
use Rattle.debug_core.specs.Sessions.{GoesOnFrom, IsSession}
use Rattle.list_writer.specs.Asked.{Session, no_session}
use Rattle.list_writer.specs.Jobs.{GoesWith, session_of}

abbrev members_in : List SetWithValues → List (List ℕ)
members_in sets = map (λ (set : SetWithValues). set.members) sets

-- a search that has just begun goes on from no session
pub begins-with : (p : Problem) (s : DebugState) → Begins p s → GoesWith p no_session s
begins-with p s begins = record {
  problem = begins.problem;
  log_is = begins.no_step;
  listed = begins.no_set;
  imported = begins.by_itself;
  goes_on = begins.goes_on;
  unfinished = begins.unfinished;
}

-- and a debugger that goes on from the log of a session of its problem goes on from the session
pub goes-on-with : (p : Problem) (old new : DebugState) (session : Session) → old.problem ≡ p → GoesOnFrom old session.log new
    → IsSession old.problem old.form (members_in session.sets) session.log → GoesWith p session new
goes-on-with p old new session same goes is = record {
  problem = goes.problem ∙ same;
  log_is = goes.log_is;
  listed = goes.listed (members_in session.sets) is;
  imported = goes.imported;
  goes_on = goes.goes_on;
  unfinished = goes.unfinished;
}

-- the session is that of its sets and of the search's log, as `list` has it
pub own-session : (session : Session) (s : DebugState) → s.log ≡ session.log → session_of session.sets s ≡ session
own-session session s same = ap (λ (log : List Step). record { sets = session.sets; log = log }) same

pub goes-with-own : (p : Problem) (session : Session) (s : DebugState) → GoesWith p session s → GoesWith p (session_of session.sets s) s
goes-with-own p session s goes = record {
  problem = goes.problem;
  log_is = refl;
  listed = goes.listed;
  imported = goes.imported ∙ sym (ap length goes.log_is);
  goes_on = goes.goes_on;
  unfinished = goes.unfinished;
}
