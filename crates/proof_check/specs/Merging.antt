-- A set of literals into which a clause is taken literal by literal.
use Rattle.std.specs.Prelude.{◌≡◌, ℕ, Bool, true, false, ◌||◌, ◌⊎◌, Option, Some, None, List}
use Rattle.clause_base.specs.declared.literal.Lit.{Lit}
use Rattle.clause_base.specs.Literal.{opposite, same_lit, has}
use Rattle.clause_base.specs.Resolution.{IsOnlyClash, resolvent}

-- the new set has one literal more, of a variable that the old one lacks
pub record Adds (old : Lit → Bool) (l : Lit) (new : Lit → Bool) : Type 0 where
  pub absent : old l ≡ false
  pub open_sign : old (opposite l) ≡ false
  pub adds : (m : Lit) → new m ≡ (old m || same_lit l m)

-- the two sets have the same literals
abbrev pub SameSet : (Lit → Bool) → (Lit → Bool) → Type 0
SameSet old new = (m : Lit) → new m ≡ old m

-- a literal is taken in: it is new, or there already, or it is the one that clashes
abbrev pub TakesIn : (Lit → Bool) → Option ℕ → Lit → (Lit → Bool) → Option ℕ → Type 0
TakesIn old clash l new next =
    (Adds old l new × (next ≡ clash))
    ⊎ (((old l ≡ true) × SameSet old new × (next ≡ clash))
    ⊎ ((old (opposite l) ≡ true) × SameSet old new × (clash ≡ None) × (next ≡ Some l.var)))

-- the set `new` is the resolvent of the set `old` and the clause, over their only clash
abbrev pub HasResolvent : (Lit → Bool) → List Lit → (Lit → Bool) → Type 0
HasResolvent old clause new = (v : ℕ) × IsOnlyClash old (has clause) v × SameSet (resolvent old (has clause) v) new

-- the set and the clause don't clash on exactly one variable
abbrev pub HasNoResolvent : (Lit → Bool) → List Lit → Type 0
HasNoResolvent old clause = (v : ℕ) → IsOnlyClash old (has clause) v → ⊥
