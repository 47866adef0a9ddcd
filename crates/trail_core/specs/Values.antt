-- Literals and clauses under a partial assignment (Handbook of Satisfiability, 2009, chapter 4, section 4.2).
use Rattle.std.specs.Prelude.{◌≡◌, ◌≢◌, ℕ, ◌≤◌, Bool, true, not, Option, Some, None, List}
use Rattle.clause_base.specs.declared.literal.Lit.{Lit}
use Rattle.clause_base.specs.Literal.{has}

-- the variables that have a value, each with it
abbrev pub Values : Type 0
Values = ℕ → Option Bool

-- the literal is true
abbrev pub IsTrueIn : Values → Lit → Type 0
IsTrueIn values l = values l.var ≡ Some (not l.negated)

-- the literal is false
abbrev pub IsFalseIn : Values → Lit → Type 0
IsFalseIn values l = values l.var ≡ Some l.negated

-- the literal is neither
abbrev pub IsUnassignedIn : Values → Lit → Type 0
IsUnassignedIn values l = values l.var ≡ None

-- all literals of the clause are false
abbrev pub IsFalsified : Values → List Lit → Type 0
IsFalsified values clause = (l : Lit) → has clause l ≡ true → IsFalseIn values l

-- the clause is unit: the literal is unassigned, and all others of the clause are false
pub record IsUnit (values : Values) (clause : List Lit) (literal : Lit) : Type 0 where
  pub member : has clause literal ≡ true
  pub unassigned : IsUnassignedIn values literal
  pub others : (l : Lit) → has clause l ≡ true → l.var ≢ literal.var → IsFalseIn values l

-- the clause is neither unit nor falsified: it has a true literal, or two unassigned ones of different variables
pub data Rests (values : Values) (clause : List Lit) : Type 0 where
  satisfied : (l : Lit) → has clause l ≡ true → IsTrueIn values l → Rests values clause
  open_at_two : (l m : Lit) → has clause l ≡ true → has clause m ≡ true → l.var ≢ m.var → IsUnassignedIn values l → IsUnassignedIn values m → Rests values clause

-- the number is one of the variables 1 to `vars`
pub record IsVariable (vars : ℕ) (v : ℕ) : Type 0 where
  pub above : 1 ≤ v
  pub within : v ≤ vars
