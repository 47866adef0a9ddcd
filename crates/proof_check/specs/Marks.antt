-- The set of literals that a table of marks stands for.
use Rattle.std.specs.Prelude.{ℕ, ◌<◌, ◌≤◌, Bool, false, ◌&&◌, ◌==◌, List, get_or, length, count_by, All}
use Rattle.clause_base.specs.declared.literal.Lit.{Lit}
use Rattle.clause_base.specs.Literal.{same_sign}
use Rattle.proof_check.specs.declared.marks.Mark.{Mark}

-- the mark of a variable that is in no set
abbrev pub blank : Mark
blank = record { stamp = 0; negated = false }

-- the mark is for the stamp, and of the literal's sign
abbrev pub is_for : ℕ → Lit → Mark → Bool
is_for stamp l mark = (mark.stamp == stamp) && same_sign mark.negated l.negated

-- the set with that stamp
abbrev pub marked : ℕ → List Mark → Lit → Bool
marked stamp marks l = is_for stamp l (get_or marks l.var blank)

-- how many literals the set with that stamp has
abbrev pub held : ℕ → List Mark → ℕ
held stamp marks = count_by (λ mark. mark.stamp == stamp) marks

-- no mark has a later stamp
abbrev pub AreStampedUpTo : ℕ → List Mark → Type 0
AreStampedUpTo stamp marks = All (λ mark. mark.stamp ≤ stamp) marks

-- the table has a mark for each variable of the clause
abbrev pub IsInTable : List Mark → List Lit → Type 0
IsInTable marks clause = All (λ l. l.var < length marks) clause

-- and for each variable of the clauses
abbrev pub AreInTable : List Mark → List (List Lit) → Type 0
AreInTable marks clauses = All (λ clause. IsInTable marks clause) clauses
