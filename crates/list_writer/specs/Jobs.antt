-- What a job asks for, by itself and where its search goes on from a session.
use Rattle.std.specs.Prelude.{ℕ, ◌≡◌, ◌+◌, ◌≤◌, false, List, All, length, map}
use Rattle.std.specs.Option.{option_copied}
use Rattle.report_doc.specs.Shape.{AreKinds}
use Rattle.design_core.specs.declared.values.SetWithValues.{SetWithValues}
use Rattle.debug_core.specs.Debugging.{DebugState}
use Rattle.debug_core.specs.Problems.{Problem, problem_of}
use Rattle.list_writer.specs.declared.job.Job.{Job}
use Rattle.list_writer.specs.Asked.{Asked, CanBeAsked, Session, no_session}
use Rattle.list_writer.specs.Found.{IsShown}

-- a job that goes on from a session
abbrev pub asked_with : Job → Session → Asked
asked_with job session = record {
  problem = problem_of job.question;
  session = session;
  budget = job.budget;
  sets = job.sets;
  log = job.log.now;
  report = job.report.now;
  waves = option_copied job.waves;
  checkpoints = option_copied job.checkpoints;
  inputs = job.inputs;
  top = job.top.now;
  clock = option_copied job.clock;
  kinds = job.kinds.now;
}

-- one that goes on from none
abbrev pub asked_of : Job → Asked
asked_of job = asked_with job no_session

-- the session whose sets were found before a search begins, and whose steps its log has
abbrev pub session_of : List SetWithValues → DebugState → Session
session_of found s = record { sets = found; log = s.log }

-- a job that can be done: the values of the session's sets explain the traces, the steps of its log can be numbered, and its report can
-- be written
pub record IsJob (asked : Asked) : Type 0 where
  pub can : CanBeAsked asked
  pub session : All (IsShown asked.problem) asked.session.sets
  pub few : length asked.session.log + length asked.session.sets + asked.budget + asked.sets ≤ 4000000000
  pub kinds : AreKinds asked.kinds

-- a search goes on from a session of the problem, and nothing was searched yet: its steps are those of the session's log, and the sets that
-- are listed the session's. One that has just begun goes on from none
pub record GoesWith (p : Problem) (session : Session) (s : DebugState) : Type 0 where
  pub problem : s.problem ≡ p
  pub log_is : s.log ≡ session.log
  pub listed : s.listed ≡ map (λ (set : SetWithValues). set.members) session.sets
  pub imported : s.imported ≡ length session.log
  pub goes_on : s.ended ≡ false
  pub unfinished : s.finished ≡ false

-- a number from 1 to the most
abbrev pub IsUpTo : ℕ → ℕ → Type 0
IsUpTo most n = (1 ≤ n) × (n ≤ most)
