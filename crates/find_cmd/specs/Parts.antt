-- Private, for the functions inside this crate: what is known of a session that was read and taken up, and of the search that goes on
-- from it; and why there is none.
use Rattle.std.specs.Prelude.{ℕ, ◌≡◌, ◌<◌, ◌≤◌, ◌^◌, List, All, length, map}
use Rattle.loc_base.specs.declared.digest.Digest.{Digest}
use Rattle.clause_base.specs.declared.literal.Lit.{Lit}
use Rattle.command_contract.specs.Contract.{Texts}
use Rattle.design_core.specs.declared.values.SetWithValues.{SetWithValues}
use Rattle.debug_core.specs.declared.error.DebugErr.{DebugErr}
use Rattle.debug_core.specs.declared.error.DebugErr.TheVariants.{NoMemory}
use Rattle.debug_core.specs.Debugging.{DebugState, IsDebugger}
use Rattle.debug_core.specs.Problems.{IsFormFor, IsRefused, Problem}
use Rattle.debug_core.specs.Sessions.{IsSession}
use Rattle.list_writer.specs.Asked.{Session}
use Rattle.list_writer.specs.Found.{IsShown}
use Rattle.list_writer.specs.Jobs.{GoesWith, session_of}
use Rattle.load_problem.specs.Refusals.{FormRefused}
use Rattle.requests.specs.Asked.{SessionNames}
use Rattle.find_cmd.specs.declared.session.Given.{Given}
use Rattle.find_cmd.specs.declared.session.Taken.{Taken}
use Rattle.find_cmd.specs.Refusals.{IsSessionReady, SessionRefused}
use Rattle.find_cmd.specs.Sessions.{Evidence, Posed}

-- ---- what was read
abbrev pub evidence_of : Given → Evidence
evidence_of given = record { report = given.report; log = given.log }

abbrev pub posed : Problem → ℕ → List (List Lit) → Digest → Posed
posed p vars form inputs = record { problem = p; vars = vars; form = form; inputs = inputs }

-- the texts of a session are refused, whatever is asked of the inputs
abbrev pub NotGiven : SessionNames → Texts → Digest → ℕ → List ℕ → Type 0
NotGiven names texts inputs status line =
    (p : Problem) (vars : ℕ) (form : List (List Lit)) → SessionRefused names texts (posed p vars form inputs) status line

-- nothing stands against a session for something that is asked of the inputs
pub record IsReadyFor (names : SessionNames) (texts : Texts) (inputs : Digest) : Type 0 where
  pub problem : Problem
  pub vars : ℕ
  pub form : List (List Lit)
  pub is : IsSessionReady names texts (posed problem vars form inputs)

-- ---- what is taken up
-- there are numbers of 32 bits for the traces and the outputs
pub record HasFew (p : Problem) : Type 0 where
  pub traces : length p.traces < 2 ^ 32
  pub outputs : length p.design.outputs.items < 2 ^ 32

abbrev pub session_in : Taken → Session
session_in taken = record { sets = taken.found.items; log = taken.log.log }

-- sets and steps can be counted, and more beside them
abbrev pub most_kept : ℕ
most_kept = 1073741824

-- the sets are those of a session of the problem, in its form, with values that explain the traces
pub record IsTaken (p : Problem) (session : Session) : Type 0 where
  pub vars : ℕ
  pub form : List (List Lit)
  pub is_form : IsFormFor p vars form
  pub is_session : IsSession p form (map (λ (set : SetWithValues). set.members) session.sets) session.log
  pub shown : All (IsShown p) session.sets
  pub few_sets : length session.sets ≤ most_kept
  pub few_steps : length session.log ≤ most_kept

-- none is taken up: the problem passes a limit, or, in its form, the session is refused
pub data NotTaken (names : SessionNames) (texts : Texts) (p : Problem) (inputs : Digest) : ℕ → List ℕ → Type 0 where
  by_limit : (status : ℕ) (line : List ℕ) → FormRefused p status line → NotTaken names texts p inputs status line
  by_session : (vars : ℕ) (form : List (List Lit)) (status : ℕ) (line : List ℕ) → IsFormFor p vars form
      → SessionRefused names texts (posed p vars form inputs) status line → NotTaken names texts p inputs status line

-- nothing stands against that
pub record CanBeTaken (names : SessionNames) (texts : Texts) (p : Problem) (inputs : Digest) : Type 0 where
  pub no_limit : (fault : DebugErr) → IsRefused p fault → fault ≡ NoMemory
  pub session : (vars : ℕ) (form : List (List Lit)) → IsFormFor p vars form → IsSessionReady names texts (posed p vars form inputs)

-- ---- the search that goes on from it, and the sets that it has found
pub record HasResumed (p : Problem) (found : List SetWithValues) (s : DebugState) : Type 0 where
  pub goes : GoesWith p (session_of found s) s
  pub holds : IsDebugger s
  pub shown : All (IsShown p) found
  pub few_sets : length found ≤ most_kept
  pub few_steps : length s.log ≤ most_kept
