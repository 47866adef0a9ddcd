-- The bounds of a form's counter: s(n, j + 1) says that more than j of the variables from 1 to n are true.
use Rattle.std.specs.Prelude.{ℕ, ◌+◌, min, List, map, Option}
use Rattle.clause_base.specs.declared.literal.Lit.{Lit}
use Rattle.clause_base.specs.Literal.{positive}
use Rattle.card_counter.specs.Places.{at_least}
use Rattle.card_counter.specs.Shows as shows
use Rattle.set_enum.specs.Sets.{numbers_from}

-- the bound at j, s(n, j + 1), of the counter whose variables begin at n + 1
abbrev pub bound_at : ℕ → ℕ → ℕ → Lit
bound_at n k j = positive (at_least (n + 1) k n (j + 1))

-- the bound at j, where there is one
abbrev pub bound_of : ℕ → ℕ → ℕ → Option Lit
bound_of n k j = shows.bound_of n k j

-- the bounds of the sizes from 0 to k, as far as there are any
abbrev pub bounds_of : ℕ → ℕ → List Lit
bounds_of n k = map (bound_at n k) (numbers_from 0 (min n (k + 1)))
