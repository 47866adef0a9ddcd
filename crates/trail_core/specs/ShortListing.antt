-- What contracts see of the list of the clauses of at most three literals that have a literal.
use Rattle.std.specs.Prelude.{ℕ, List, [], ◌∷◌, map, length}
use Rattle.clause_base.specs.declared.literal.Lit.{Lit}
use Rattle.trail_core.specs.declared.short_list.Short.{Short}

-- the clauses, and how many of them have a place there
pub record ShortListing : Type 0 where
  pub clauses : List Short
  pub room : ℕ

-- no clauses, and no place for any
abbrev pub no_shorts : ShortListing
no_shorts = record { clauses = []; room = 0 }

-- a list to which no clause is added any more
abbrev pub full_list : List Short → ShortListing
full_list clauses = record { clauses = clauses; room = length clauses }

-- the lists that count: those in one piece, once there are any, and else those that take more clauses
abbrev pub lists_in : List (List Short) → List ShortListing → List ShortListing
lists_in [] growing = growing
lists_in (row ∷ rows) growing = map full_list (row ∷ rows)

-- the other literals of a clause in the list of one of them
abbrev pub one_of : Short → Lit
one_of s = record { var = s.one_var; negated = s.one_negated }

abbrev pub two_of : Short → Lit
two_of s = record { var = s.two_var; negated = s.two_negated }
