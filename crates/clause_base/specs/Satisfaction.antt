-- Assignments, and what they satisfy.
use Rattle.std.specs.Prelude.{ℕ, Bool, false, cond, not, ◌||◌, List, [], ◌∷◌, IsTrue, All}
use Rattle.clause_base.specs.declared.literal.Lit.{Lit}

-- the literal's value where the assignment gives each variable a truth value
abbrev pub value_of : (ℕ → Bool) → Lit → Bool
value_of assignment l = cond l.negated (not (assignment l.var)) (assignment l.var)

-- some literal of the clause is true
abbrev pub is_satisfied : (ℕ → Bool) → List Lit → Bool
is_satisfied assignment [] = false
is_satisfied assignment (l ∷ clause) = value_of assignment l || is_satisfied assignment clause

-- the assignment satisfies the clause
abbrev pub SatisfiesClause : (ℕ → Bool) → List Lit → Type 0
SatisfiesClause assignment clause = IsTrue (is_satisfied assignment clause)

-- the assignment satisfies each clause of the form
abbrev pub Satisfies : (ℕ → Bool) → List (List Lit) → Type 0
Satisfies assignment clauses = All (λ clause. SatisfiesClause assignment clause) clauses
