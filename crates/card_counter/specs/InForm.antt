-- A counter in a form: the form's first clauses count the variables from 1 to n, and the others name none of the counters.
use Rattle.std.specs.Prelude.{◌≡◌, ℕ, zero, suc, ◌+◌, ◌<◌, ◌≤◌, Bool, false, List, [], ◌∷◌, ◌++◌, All}
use Rattle.clause_base.specs.declared.literal.Lit.{Lit}
use Rattle.clause_base.specs.Literal.{positive}
use Rattle.clause_base.specs.Satisfaction.{Satisfies}
use Rattle.card_counter.specs.Places.{starts, at_least, IsNoCounter}
use Rattle.card_counter.specs.Counter.{counter_clauses}
use Rattle.card_counter.specs.Means.{true_count}

-- the variables from one on, so many
abbrev pub literals_from : ℕ → ℕ → List Lit
literals_from first zero = []
literals_from first (suc count) = positive first ∷ literals_from (first + 1) count

-- the clause names none of the counters of the variables from 1 to n
abbrev pub NamesNoCounter : ℕ → ℕ → List Lit → Type 0
NamesNoCounter n k clause = All (λ l. IsNoCounter (n + 1) k n l.var) clause

-- the form's counter
pub record HasCounter (n k vars : ℕ) (form : List (List Lit)) : Type 0 where
  pub within : n + starts k (n + 1) ≤ vars
  pub rest : List (List Lit)
  pub splits : form ≡ counter_clauses (literals_from 1 n) k (n + 1) ++ rest
  pub apart : All (NamesNoCounter n k) rest

-- an assignment of the form that is another one outside the counters, and meets each bound that the true variables allow
pub record Follows (n k : ℕ) (form : List (List Lit)) (assignment : ℕ → Bool) : Type 0 where
  pub other : ℕ → Bool
  pub satisfies : Satisfies other form
  pub same : (variable : ℕ) → IsNoCounter (n + 1) k n variable → other variable ≡ assignment variable
  pub bounds : (j : ℕ) → j ≤ k → j < n → true_count assignment (literals_from 1 n) ≤ j → other (at_least (n + 1) k n (j + 1)) ≡ false

-- a form with its counter, and an assignment
pub record Assigned : Type 0 where
  pub n : ℕ
  pub k : ℕ
  pub vars : ℕ
  pub form : List (List Lit)
  pub assignment : ℕ → Bool
  pub j : ℕ
