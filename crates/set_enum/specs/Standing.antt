-- The parts of an enumerator.
use Rattle.std.specs.Prelude.{◌≡◌, ℕ, ◌+◌, ◌<◌, Bool, true, ◌&&◌, is_some, length, if◌then◌else◌, List, [], ◌∷◌, Option, Some, None, nat_lt}
use Rattle.clause_base.specs.declared.literal.Lit.{Lit}
use Rattle.clause_base.specs.Literal.{opposite}
use Rattle.sat_core.specs.SolverState.{SolverState, IsSolver, assignment_of}
use Rattle.set_enum.specs.Sets.{numbers_from, selected}
use Rattle.set_enum.specs.Bounds.{bound_at}
use Rattle.set_enum.specs.EnumState.{EnumState, IsEnum}
use Rattle.set_enum.specs.declared.enumerator.Next.{Next}
use Rattle.set_enum.specs.Outcome.{Gives}

-- the set that waits to be blocked, where the last model's was answered
abbrev pub waiting : ℕ → Bool → List Bool → Option (List ℕ)
waiting n found model = if found then Some (selected n (assignment_of model)) else None

-- what contracts see of an enumerator with this solver
abbrev pub state_of : ℕ → ℕ → ℕ → Bool → SolverState → EnumState
state_of n k size found s = record {
  vars = s.vars;
  form = s.form;
  n = n;
  k = k;
  size = size;
  log = s.log;
  last = waiting n found s.model;
  model = s.model;
  told = found && is_some s.told;
}

-- what is assumed at size j: not the bound at j, or nothing where there are no more than j selectors
abbrev pub assumed : ℕ → ℕ → ℕ → List Lit
assumed n k j = if nat_lt j n then opposite (bound_at n k j) ∷ [] else []

-- what the solver tells of a set that waits: it was found under what is assumed at the present size, and has so many members
abbrev pub IsToldAt : ℕ → ℕ → ℕ → Bool → SolverState → Type 0
IsToldAt n k size found s =
    found ≡ true → (assume : List Lit) → s.told ≡ Some assume
    → (assume ≡ assumed n k size) × (length (selected n (assignment_of s.model)) ≡ size)

-- what holds of the parts of each enumerator: the solver prefers the selectors true, in ascending order
pub record IsStanding (n k size : ℕ) (found : Bool) (s : SolverState) : Type 0 where
  pub holds : IsEnum (state_of n k size found s)
  pub solver : IsSolver s
  pub preferred : s.preferred ≡ numbers_from 1 n
  pub told : IsToldAt n k size found s

-- the size that is searched after a size that a derived clause closes: all are closed where it is empty
abbrev pub next_size : ℕ → ℕ → List Lit → ℕ
next_size k size [] = k + 1
next_size k size (l ∷ clause) = size + 1

-- what one search comes to: an answer, or a size is closed that was open
abbrev pub Advances : EnumState → EnumState → ℕ → Option Next → Type 0
Advances old new left None = (old.size < new.size) × (new.last ≡ None) × (0 < left)
Advances old new left (Some answer) = (new.size ≡ old.size) × Gives old new left answer
