-- Literals, sets of literals, and clauses as lists of literals.
use Rattle.std.specs.Prelude.{ℕ, ◌≤◌, Bool, true, false, cond, not, ◌&&◌, ◌||◌, ◌==◌, List, [], ◌∷◌, IsTrue, All}
use Rattle.clause_base.specs.declared.literal.Lit.{Lit}

-- the literal that is the variable itself
abbrev pub positive : ℕ → Lit
positive v = record { var = v; negated = false }

-- the negation of the variable
abbrev pub negative : ℕ → Lit
negative v = record { var = v; negated = true }

-- the literal of the same variable and the other sign
abbrev pub opposite : Lit → Lit
opposite l = record { var = l.var; negated = not l.negated }

-- two signs are the same
abbrev pub same_sign : Bool → Bool → Bool
same_sign a b = cond a b (not b)

-- two literals are the same
abbrev pub same_lit : Lit → Lit → Bool
same_lit a b = (a.var == b.var) && same_sign a.negated b.negated

-- the clause has the literal: a clause as a set
abbrev pub has : List Lit → Lit → Bool
has [] l = false
has (x ∷ xs) l = same_lit x l || has xs l

-- some literal of the clause is of the variable
abbrev pub has_variable : List Lit → ℕ → Bool
has_variable [] v = false
has_variable (x ∷ xs) v = (x.var == v) || has_variable xs v

-- no two literals of the clause are of one variable
abbrev pub has_distinct_variables : List Lit → Bool
has_distinct_variables [] = true
has_distinct_variables (x ∷ xs) = not (has_variable xs x.var) && has_distinct_variables xs

-- the literals of each clause are of distinct variables
abbrev pub AllDistinct : List (List Lit) → Type 0
AllDistinct clauses = All (λ clause. IsTrue (has_distinct_variables clause)) clauses

-- the clause's variables are from 1 to vars
abbrev pub IsWithin : ℕ → List Lit → Type 0
IsWithin vars clause = All (λ l. (1 ≤ l.var) × (l.var ≤ vars)) clause

-- the clauses' variables are from 1 to vars
abbrev pub AreWithin : ℕ → List (List Lit) → Type 0
AreWithin vars clauses = All (λ clause. IsWithin vars clause) clauses
