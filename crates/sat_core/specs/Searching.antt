-- A search under way, and what its steps leave.
use Rattle.std.specs.Prelude.{◌≡◌, ℕ, ◌+◌, ◌-◌, ◌*◌, ◌^◌, ◌<◌, ◌≤◌, ◌==◌, if◌then◌else◌, ⊤, Bool, List, [], ◌∷◌, ◌++◌, length, take, Option, Some, None, Result, Ok, Err, All}
use Rattle.loc_base.specs.declared.memory.NoMemory.{NoMemory}
use Rattle.clause_base.specs.declared.literal.Lit.{Lit}
use Rattle.clause_base.specs.declared.log.Step.{Step}
use Rattle.clause_base.specs.declared.log.StepKind.TheVariants.{Derived as derived_kind}
use Rattle.clause_base.specs.Acceptance.{clauses_of}
use Rattle.trail_core.specs.Values.{IsVariable}
use Rattle.trail_core.specs.TrailState.{TrailState, values_of}
use Rattle.sat_core.specs.declared.engine.Engine.{Engine}
use Rattle.sat_core.specs.declared.verdict.Verdict.{Verdict}
use Rattle.sat_core.specs.declared.verdict.Verdict.TheVariants as verdict
use Rattle.sat_core.specs.SolverState.{SolverState, IsSolver, IsGreatestModel, assignment_of}
use Rattle.sat_core.specs.Outcome.{IsRefuted, Says, closings_of}
use Rattle.sat_core.specs.Derivation.{Denies}
use Rattle.sat_core.specs.Choices.{AreChosen, AllValued}
use Rattle.sat_core.specs.Engines.{IsFit}

-- the clauses of the form, which are the trail's first
abbrev pub form_of : Engine → List (List Lit)
form_of e = take e.form_len e.trail.clauses

-- what contracts see of an engine and its log, but for what is told
abbrev pub state_of : Engine → List Step → SolverState
state_of e log = record { vars = e.trail.vars; form = form_of e; preferred = e.preferred.items; log = log; model = e.model.items; told = None }

-- what contracts see of a solver: its engine and its log, and the assumptions of its last model while the engine knows all steps
abbrev pub seen_of : Engine → List Step → Option (List Lit) → SolverState
seen_of e log told = record (state_of e log) { told = if e.known == length log then told else None }

-- an engine and its log between two calls: the trail has the clauses of the form and of as many steps as are known
pub record IsReady (e : Engine) (log : List Step) : Type 0 where
  pub fit : IsFit e
  pub own : e.form_len ≤ length e.trail.clauses
  pub known : e.known ≤ length log
  pub pace : e.trail.clauses ≡ clauses_of (form_of e) (take e.known log)
  pub preferred : All (λ v. (1 ≤ v) × (v ≤ e.trail.vars)) e.preferred.items
  pub few : length e.preferred.items < 2 ^ 32
  pub size : length e.model.items ≡ e.trail.vars
  pub solver : IsSolver (state_of e log)

-- an engine in the middle of a search: the trail has the clauses of all steps, and each decision has its place in the order
pub record IsUnderWay (e : Engine) (log : List Step) (assume : List Lit) : Type 0 where
  pub ready : IsReady e log
  pub whole : e.known ≡ length log
  pub chosen : AreChosen e.trail assume e.preferred.items e.chosen.items

-- an engine at the beginning of a search
pub record IsAtStart (e : Engine) (log : List Step) : Type 0 where
  pub whole : e.known ≡ length log
  pub level : e.trail.level ≡ 0
  pub chosen : e.chosen.items ≡ []

-- the form, its variables and the preferred ones stay
pub record Keeps (old new : Engine) : Type 0 where
  pub vars : new.trail.vars ≡ old.trail.vars
  pub size : new.form_len ≡ old.form_len
  pub form : form_of new ≡ form_of old
  pub preferred : new.preferred.items ≡ old.preferred.items

-- the log has one derived step more: its chain gives its clause of the head and of opposites of decisions
pub record DerivesStep (t : TrailState) (head : List Lit) (old new : List Step) : Type 0 where
  pub literals : List Lit
  pub chain : List ℕ
  pub step : new ≡ old ++ record { kind = derived_kind; clause = literals; chain = chain } ∷ []
  pub denies : Denies t head literals chain

-- the model has the values of the trail's variables
pub record IsModelOf (t : TrailState) (model : List Bool) : Type 0 where
  pub size : length model ≡ t.vars
  pub values : (v : ℕ) (b : Bool) → IsVariable t.vars v → values_of t.entries v ≡ Some b → assignment_of model v ≡ b

-- the trail is as the last model left it, which was found under these assumptions
pub record Stands (e : Engine) (assume : List Lit) : Type 0 where
  pub chosen : AreChosen e.trail assume e.preferred.items e.chosen.items
  pub valued : AllValued e.trail
  pub model : IsModelOf e.trail e.model.items

-- after a model the trail stands, and has the clauses of all steps
abbrev pub StandsBy : Engine → List Step → List Lit → Verdict → Type 0
StandsBy e log assume verdict.Model = (e.known ≡ length log) × Stands e assume
StandsBy e log assume (verdict.Closed step) = ⊤
StandsBy e log assume verdict.Spent = ⊤

-- the same after a step of the search, which may go on
abbrev pub StandsAfter : Engine → List Step → List Lit → Option Verdict → Type 0
StandsAfter e log assume None = ⊤
StandsAfter e log assume (Some v) = StandsBy e log assume v

-- the trail stands where assumptions are told
abbrev pub StandsTold : Engine → Option (List Lit) → Type 0
StandsTold e None = ⊤
StandsTold e (Some assume) = Stands e assume

-- what ends a search while units are left
abbrev pub Ends : SolverState → List Lit → Verdict → Type 0
Ends s assume verdict.Model = IsGreatestModel s assume
Ends s assume (verdict.Closed step) = IsRefuted s.log step assume
Ends s assume verdict.Spent = ⊥

-- a step at rest decides, or ends the search
abbrev pub ExtendGives : Engine → Engine → List Step → List Lit → Option Verdict → Type 0
ExtendGives old new log assume None = IsUnderWay new log assume × (length old.trail.entries < length new.trail.entries)
ExtendGives old new log assume (Some v) = Ends (state_of new log) assume v

-- how much of a search is left: the units, and below them the variables without a value
abbrev pub measure : Engine → ℕ → ℕ
measure e left = left * (e.trail.vars + 1) + (e.trail.vars - length e.trail.entries)

-- a search that goes on, with less left
pub record GoesOn (old new : Engine) (log : List Step) (assume : List Lit) (budget left : ℕ) : Type 0 where
  pub under_way : IsUnderWay new log assume
  pub some : 0 < left
  pub smaller : measure new left < measure old budget

-- a step goes on, or ends the search
abbrev pub StepGives : Engine → Engine → List Step → List Lit → ℕ → ℕ → Option Verdict → Type 0
StepGives old new log assume budget left None = GoesOn old new log assume budget left
StepGives old new log assume budget left (Some v) = Says (state_of new log) assume left v

-- how many derived steps come with a step of the search
abbrev pub closings_at : Result (Option Verdict) NoMemory → ℕ
closings_at (Ok None) = 0
closings_at (Ok (Some v)) = closings_of v
closings_at (Err e) = 0
