-- Clauses of a form by their places: those that are wanted, and an empty one in the place of each that isn't.
use Rattle.std.specs.Prelude.{ℕ, ◌+◌, Bool, true, not, ◌||◌, if◌then◌else◌, List, [], ◌∷◌, get_or}
use Rattle.clause_base.specs.declared.literal.Lit.{Lit}

-- clauses, the first of which has a place, with the empty clause where the mark of a place is false
unfoldable pub named_from : List Bool → ℕ → List (List Lit) → List (List Lit)
named_from named place [] = []
named_from named place (clause ∷ clauses) = (if get_or named place true then clause else []) ∷ named_from named (place + 1) clauses

-- those of a whole form
abbrev pub only_named : List Bool → List (List Lit) → List (List Lit)
only_named named clauses = named_from named 0 clauses

-- none of three clauses, the first of which has a place, is wanted
unfoldable pub skips_three : List Bool → ℕ → Bool
skips_three named place = not (get_or named place true || (get_or named (place + 1) true || get_or named (place + 2) true))

-- a form whose clauses aren't made yet
pub record Planned : Type 0 where
  pub vars : ℕ
  pub clauses : List (List Lit)
