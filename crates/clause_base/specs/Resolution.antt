-- Resolution (Robinson 1965), of clauses as sets of literals, over exactly one clashing variable.
use Rattle.std.specs.Prelude.{◌≡◌, ℕ, Bool, true, not, ◌&&◌, ◌||◌, ◌==◌, List, [], ◌∷◌}
use Rattle.clause_base.specs.declared.literal.Lit.{Lit}
use Rattle.clause_base.specs.Literal.{positive, negative, has}

-- one of the two sets has the variable, and the other its negation
abbrev pub clashes : (Lit → Bool) → (Lit → Bool) → ℕ → Bool
clashes a b v = (a (positive v) && b (negative v)) || (a (negative v) && b (positive v))

-- the two sets clash on the variable, and on no other
abbrev pub IsOnlyClash : (Lit → Bool) → (Lit → Bool) → ℕ → Type 0
IsOnlyClash a b v = (clashes a b v ≡ true) × ((w : ℕ) → clashes a b w ≡ true → w ≡ v)

-- the literals of the two sets that are of another variable
abbrev pub resolvent : (Lit → Bool) → (Lit → Bool) → ℕ → (Lit → Bool)
resolvent a b v l = (a l || b l) && not (l.var == v)

-- the set `from`, resolved in turn with each of the clauses, each time over exactly one clashing variable, is `to`
abbrev pub Gives : (Lit → Bool) → List (List Lit) → (Lit → Bool) → Type 0
Gives from [] to = (l : Lit) → from l ≡ to l
Gives from (clause ∷ clauses) to =
    (v : ℕ) × IsOnlyClash from (has clause) v × Gives (resolvent from (has clause) v) clauses to

-- the first of the clauses, resolved in turn with each next one, is the clause as a set of literals
abbrev pub IsResult : List (List Lit) → List Lit → Type 0
IsResult [] clause = ⊥
IsResult (first ∷ rest) clause = Gives (has first) rest (has clause)
