-- Sets of the variables from 1 to n, as ascending lists of numbers: which assignments select them, in which order they come,
-- and which of them comes first.
use Rattle.std.specs.Prelude.{◌≡◌, ℕ, zero, suc, ◌+◌, ◌≤◌, Bool, false, List, [], ◌∷◌, length, map, filter, All}
use Rattle.std.specs.List.Sorted.{IsStrictlyIncreasing}
use Rattle.loc_base.specs.Sets.{is_before}
use Rattle.clause_base.specs.declared.literal.Lit.{Lit}
use Rattle.clause_base.specs.Literal.{negative}
use Rattle.clause_base.specs.Satisfaction.{Satisfies}

-- the numbers from one on, so many
abbrev pub numbers_from : ℕ → ℕ → List ℕ
numbers_from first zero = []
numbers_from first (suc count) = first ∷ numbers_from (first + 1) count

-- of the variables from 1 to n those that the assignment makes true, ascending
abbrev pub selected : ℕ → (ℕ → Bool) → List ℕ
selected n assignment = filter assignment (numbers_from 1 n)

-- a set of variables from 1 to n
pub record IsSetOf (n : ℕ) (set : List ℕ) : Type 0 where
  pub ascending : IsStrictlyIncreasing set
  pub members : All (λ m. (1 ≤ m) × (m ≤ n)) set

-- the clause that a set's members aren't all true
abbrev pub block_of : List ℕ → List Lit
block_of set = map negative set

-- the clause is the block of a set of variables from 1 to n
pub record IsBlock (n : ℕ) (clause : List Lit) : Type 0 where
  pub set : List ℕ
  pub of : IsSetOf n set
  pub is : clause ≡ block_of set

-- no assignment of the clauses selects fewer than `size` of the variables from 1 to n
abbrev pub NoneBelow : ℕ → ℕ → List (List Lit) → Type 0
NoneBelow n size clauses = (assignment : ℕ → Bool) → Satisfies assignment clauses → size ≤ length (selected n assignment)

-- of the sets of at most k members that assignments of the clauses select, the first, by size and then by members
pub record IsFirst (n k : ℕ) (clauses : List (List Lit)) (set : List ℕ) : Type 0 where
  pub few : length set ≤ k
  pub witness : ℕ → Bool
  pub satisfies : Satisfies witness clauses
  pub selects : selected n witness ≡ set
  pub first : (other : ℕ → Bool) → Satisfies other clauses → length (selected n other) ≤ k → is_before (selected n other) set ≡ false
