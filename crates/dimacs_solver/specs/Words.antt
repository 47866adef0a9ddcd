-- The words of a formula in DIMACS CNF: numbers, of which 0 ends a clause.
use Rattle.std.specs.Prelude.{◌≡◌, ℕ, ◌≤◌, zero, suc, ℤ, pos, negsuc, List, [], All, Option, Some, None, ⊤}
use Rattle.clause_base.specs.Literal.{positive, negative}
use Rattle.dimacs_solver.specs.declared.words.Word.{Word}
use Rattle.dimacs_solver.specs.declared.words.Word.TheVariants.{Literal, End}
use Rattle.dimacs_solver.specs.declared.words.Problem.{Problem}

-- the word that a number is: v is the variable v, and -v its negation
abbrev pub word_of : ℤ → Word
word_of (pos zero) = End
word_of (pos (suc n)) = Literal (positive (suc n))
word_of (negsuc n) = Literal (negative (suc n))

-- the word is an end, or its variable is from 1 to vars
abbrev pub IsWordWithin : ℕ → Word → Type 0
IsWordWithin vars (Literal l) = (1 ≤ l.var) × (l.var ≤ vars)
IsWordWithin vars End = ⊤

-- the number's word is within
abbrev pub IsNumberWithin : ℕ → ℤ → Type 0
IsNumberWithin vars number = IsWordWithin vars (word_of number)

-- the numbers are those of a problem line's clauses; before the problem line there is none
abbrev pub AreNumbersOf : Option Problem → List ℤ → Type 0
AreNumbersOf None numbers = numbers ≡ []
AreNumbersOf (Some problem) numbers = All (λ number. IsNumberWithin problem.vars number) numbers
