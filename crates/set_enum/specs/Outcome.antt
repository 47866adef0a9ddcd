-- What a call of `next` answers, and what it adds to the log.
use Rattle.std.specs.Prelude.{◌≡◌, ℕ, ◌+◌, ◌<◌, ◌≤◌, ◌⊎◌, true, List, length, Result, Ok, Some, None}
use Rattle.loc_base.specs.declared.memory.NoMemory.{NoMemory}
use Rattle.clause_base.specs.declared.log.StepKind.TheVariants.{Derived}
use Rattle.clause_base.specs.Steps.{step_at}
use Rattle.clause_base.specs.Satisfaction.{Satisfies}
use Rattle.clause_base.specs.Acceptance.{clauses_of}
use Rattle.clause_base.specs.Counted.{EndsASize}
use Rattle.sat_core.specs.SolverState.{assignment_of}
use Rattle.sat_core.specs.Outcome.{Grows}
use Rattle.set_enum.specs.declared.enumerator.Next.{Next}
use Rattle.set_enum.specs.declared.enumerator.Next.TheVariants as next
use Rattle.set_enum.specs.Sets.{IsFirst, selected}
use Rattle.set_enum.specs.Bounds.{bounds_of}
use Rattle.set_enum.specs.EnumState.{EnumState, listed_over}

-- what a call of `next` changes, `budget` and `left` being the units before and after it
pub record Adds (old new : EnumState) (budget left : ℕ) : Type 0 where
  pub vars : new.vars ≡ old.vars
  pub form : new.form ≡ old.form
  pub n : new.n ≡ old.n
  pub k : new.k ≡ old.k
  -- how many derived steps were added
  pub derived : ℕ
  -- the old steps stay in front; no block is added, as many learned steps as units were taken, each of them fresh, and so many derived ones
  pub grows : Grows old.form old.log new.log budget left derived
  -- each closes a size at least, so all calls together add at most k + 1
  pub few : old.size + derived ≤ new.size
  -- the clause of each is empty, or the bound of some size alone
  pub ends : (place : ℕ) → length old.log ≤ place → place < length new.log → (step_at new.log place).kind ≡ Derived
      → EndsASize (bounds_of old.n old.k) (step_at new.log place).clause

-- the set is the first that assignments of form and blocks select; the model satisfies form and log, and selects it
pub record GivesSet (s : EnumState) (set : List ℕ) : Type 0 where
  pub first : IsFirst s.n s.k (listed_over s) set
  pub size : length set ≡ s.size
  pub last : s.last ≡ Some set
  pub told : s.told ≡ true
  pub satisfies : Satisfies (assignment_of s.model) (clauses_of s.form s.log)
  pub selects : selected s.n (assignment_of s.model) ≡ set

-- what each answer says: a set only with units left; closed only where all sizes are, with units left or closed before; spent
-- exactly where no unit is left and some size is open. Only a set waits to be blocked
abbrev pub Gives : EnumState → EnumState → ℕ → Next → Type 0
Gives old new left (next.Set members) = (0 < left) × GivesSet new members
Gives old new left next.Closed = (new.size ≡ old.k + 1) × (new.last ≡ None) × ((old.size ≡ old.k + 1) ⊎ (0 < left))
Gives old new left next.Spent = (left ≡ 0) × (new.size ≤ old.k) × (new.last ≡ None)

-- after want of memory some size is open, and no set waits
abbrev pub IsOpen : EnumState → EnumState → Type 0
IsOpen old new = (new.size ≤ old.k) × (new.last ≡ None)

-- once all sizes are closed, each answer says so, and nothing changes any more
abbrev pub StaysClosed : EnumState → EnumState → Result Next NoMemory → Type 0
StaysClosed old new result = old.size ≡ old.k + 1 → (result ≡ Ok next.Closed) × (new ≡ old)
