-- What a listing is asked: which problem, from which session it goes on, how much may be spent on it, under which names it writes, and
-- what its report and its waves say of the run.
use Rattle.std.specs.Prelude.{ℕ, ◌≡◌, ◌+◌, ◌≤◌, ◌≢◌, false, List, [], Option, length}
use Rattle.loc_base.specs.declared.digest.Digest.{Digest}
use Rattle.clause_base.specs.declared.log.Step.{Step}
use Rattle.design_core.specs.declared.values.SetWithValues.{SetWithValues}
use Rattle.debug_core.specs.Problems.{Problem, IsProblem}
use Rattle.set_waves.specs.Names.{IsNoWave}
use Rattle.list_writer.specs.CheckpointNames.{is_checkpoint}

-- what an earlier run left, from which a listing goes on: the sets that it found, with values, and its log
pub record Session : Type 0 where
  pub sets : List SetWithValues
  pub log : List Step

-- where a listing goes on from none, both are empty
abbrev pub no_session : Session
no_session = record { sets = []; log = [] }

pub record Asked : Type 0 where
  pub problem : Problem
  pub session : Session
  -- the most steps that may be learned, and the most sets that may be found, beside those of the session
  pub budget : ℕ
  pub sets : ℕ
  -- the names of the log and of the report that are written, and the prefix of the waves' names, where waves are asked for
  pub log : List ℕ
  pub report : List ℕ
  pub waves : Option (List ℕ)
  -- and that of the checkpoints' names, where they are asked for
  pub checkpoints : Option (List ℕ)
  -- the digest of the run's inputs, and the words that the report repeats
  pub inputs : Digest
  pub top : List ℕ
  pub clock : Option (List ℕ)
  pub kinds : List (List ℕ)

-- the log and the report have names of their own, and neither has that of a wave
pub record HasOwnNames (asked : Asked) : Type 0 where
  pub apart : asked.log ≢ asked.report
  pub own_log : IsNoWave asked.waves asked.log
  pub own_report : IsNoWave asked.waves asked.report

-- the most sets that can be listed: those of the session, and as many as may be found
abbrev pub most_sets : Asked → ℕ
most_sets asked = length asked.session.sets + asked.sets

-- what can be asked
pub record CanBeAsked (asked : Asked) : Type 0 where
  pub problem : IsProblem asked.problem
  pub some_sets : 1 ≤ asked.sets
  pub apart : asked.log ≢ asked.report
  pub own_log : IsNoWave asked.waves asked.log
  pub own_report : IsNoWave asked.waves asked.report
  -- neither has a name of a checkpoint
  pub log_beside : is_checkpoint asked.checkpoints asked.log ≡ false
  pub report_beside : is_checkpoint asked.checkpoints asked.report ≡ false
