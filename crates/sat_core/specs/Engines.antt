-- A step of learning.
use Rattle.std.specs.Prelude.{◌≡◌, ℕ, ◌+◌, ◌<◌, true, List, [], ◌∷◌, ◌++◌, length, take}
use Rattle.clause_base.specs.declared.literal.Lit.{Lit}
use Rattle.clause_base.specs.declared.log.Step.{Step}
use Rattle.clause_base.specs.declared.log.StepKind.TheVariants.{Learned as learned_kind}
use Rattle.clause_base.specs.Literal.{has_distinct_variables, IsWithin}
use Rattle.clause_base.specs.Acceptance.{IsAcceptedChain, clauses_of}
use Rattle.clause_base.specs.Progress.{IsFresh}
use Rattle.trail_core.specs.TrailState.{TrailState, IsTrail, with_clause, back_at}
use Rattle.sat_core.specs.declared.engine.Engine.{Engine}
use Rattle.sat_core.specs.Analyses.{IsEmpty}

-- an engine between two steps: the trail is one, and no analysis is under way
pub record IsFit (e : Engine) : Type 0 where
  pub trail : IsTrail e.trail
  pub empty : IsEmpty e.analysis
  pub size : length e.analysis.marked.items ≡ e.trail.vars

-- the log has one learned step more: its chain gives its clause, which is fresh, over the clauses before
pub record LearnsStep (t : TrailState) (old new : List Step) (literals : List Lit) (chain : List ℕ) : Type 0 where
  pub step : new ≡ old ++ record { kind = learned_kind; clause = literals; chain = chain } ∷ []
  pub accepted : IsAcceptedChain t.clauses chain literals
  pub fresh : IsFresh t.clauses literals
  pub distinct : has_distinct_variables literals ≡ true
  pub within : IsWithin t.vars literals

-- the clause was learned, and the trail has it at a lower level
pub record Learned (old new : Engine) (before after : List Step) : Type 0 where
  pub literals : List Lit
  pub chain : List ℕ
  pub learns : LearnsStep old.trail before after literals chain
  pub level : ℕ
  pub lower : level < old.trail.level
  pub trail : new.trail ≡ with_clause (back_at old.trail level) literals
  pub chosen : new.chosen.items ≡ take level old.chosen.items
  pub known : new.known ≡ old.known + 1

-- after want of memory the log is as it was, or has the learned step, for which a unit was taken; the trail lacks it
pub data KeptLog (old new : Engine) (before after : List Step) (units left : ℕ) : Type 0 where
  same : new.trail.clauses ≡ old.trail.clauses → new.known ≡ old.known → after ≡ before → left ≡ units → KeptLog old new before after units left
  step : (literals : List Lit) (chain : List ℕ) → new.trail.clauses ≡ old.trail.clauses → new.known ≡ old.known → LearnsStep old.trail before after literals chain → left + 1 ≡ units → KeptLog old new before after units left

-- the trail's clauses are those of a form and of as many steps of the log as the engine knows, and stay so
abbrev pub KeepsPace : Engine → Engine → List Step → Type 0
KeepsPace old new log = (form : List (List Lit)) → old.trail.clauses ≡ clauses_of form (take old.known log) → new.trail.clauses ≡ clauses_of form (take new.known log)
