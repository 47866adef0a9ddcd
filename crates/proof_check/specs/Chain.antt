-- The numbers of a chain.
use Rattle.std.specs.Prelude.{◌≡◌, ℕ, ◌≤◌, List, length, IsTrue}
use Rattle.clause_base.specs.declared.literal.Lit.{Lit}
use Rattle.clause_base.specs.Literal.{has_distinct_variables}
use Rattle.clause_base.specs.Acceptance.{numbered}

-- one of the clauses has the number, counted from 1
abbrev pub IsNumberOf : List (List Lit) → ℕ → Type 0
IsNumberOf clauses number = (1 ≤ number) × (number ≤ length clauses)

-- it is this clause
pub record IsClauseOf (clauses : List (List Lit)) (number : ℕ) (clause : List Lit) : Type 0 where
  pub is_number : IsNumberOf clauses number
  pub is_clause : clause ≡ numbered clauses number
  pub distinct : IsTrue (has_distinct_variables clause)
