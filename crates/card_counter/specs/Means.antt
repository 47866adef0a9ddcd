-- What the clauses of a counter say.
use Rattle.std.specs.Prelude.{◌≡◌, ℕ, ◌+◌, ◌<◌, ◌≤◌, Bool, false, nat_le, List, length, take, count_by, All}
use Rattle.clause_base.specs.declared.literal.Lit.{Lit}
use Rattle.clause_base.specs.Satisfaction.{value_of, Satisfies}
use Rattle.card_counter.specs.Places.{width, starts, at_least, IsNoCounter}

-- how many of the selectors are true
abbrev pub true_count : (ℕ → Bool) → List Lit → ℕ
true_count assignment selectors = count_by (value_of assignment) selectors

-- each counter s(i, m) tells whether at least m of the first i selectors are true
abbrev pub Counts : (ℕ → Bool) → ℕ → ℕ → List Lit → Type 0
Counts assignment first k selectors =
    (i m : ℕ) → i ≤ length selectors → 1 ≤ m → m ≤ width k i
    → assignment (at_least first k i m) ≡ nat_le m (true_count assignment (take i selectors))

-- an assignment that counts, and is another one outside the counters
pub record CountsAs (assignment : ℕ → Bool) (first k : ℕ) (selectors : List Lit) : Type 0 where
  pub other : ℕ → Bool
  pub counts : Counts other first k selectors
  pub same : (variable : ℕ) → IsNoCounter first k (length selectors) variable → other variable ≡ assignment variable

-- the selectors' variables stand before the counters
abbrev pub AreBefore : ℕ → List Lit → Type 0
AreBefore first selectors = All (λ x. x.var < first) selectors

-- what a counter's clauses say: where the bound at j is false, at most j selectors are true; an assignment that counts
-- satisfies the clauses; and whatever the selectors are, there is one that counts
pub record IsCounter (first k : ℕ) (selectors : List Lit) (clauses : List (List Lit)) : Type 0 where
  pub at_most : (assignment : ℕ → Bool) → Satisfies assignment clauses → (j : ℕ) → j ≤ k → j < length selectors
      → assignment (at_least first k (length selectors) (j + 1)) ≡ false → true_count assignment selectors ≤ j
  pub met : (assignment : ℕ → Bool) → Counts assignment first k selectors → Satisfies assignment clauses
  pub exists : (assignment : ℕ → Bool) → CountsAs assignment first k selectors

-- a counter and an assignment, and a size
pub record Bounded : Type 0 where
  pub first : ℕ
  pub k : ℕ
  pub selectors : List Lit
  pub assignment : ℕ → Bool
  pub j : ℕ

-- an assignment that satisfies the counter's clauses and the bound at j, and is another one outside the counters
pub record MeetsBound (of : Bounded) (clauses : List (List Lit)) : Type 0 where
  pub other : ℕ → Bool
  pub same : (variable : ℕ) → IsNoCounter of.first of.k (length of.selectors) variable → other variable ≡ of.assignment variable
  pub satisfies : Satisfies other clauses
  pub bound : other (at_least of.first of.k (length of.selectors) (of.j + 1)) ≡ false
