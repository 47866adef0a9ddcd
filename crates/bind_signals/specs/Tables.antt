-- Names in a table, and tables of names with a token of each.
use Rattle.std.specs.Prelude.{◌≡◌, ℕ, Bool, false, nat_lt, max, List, Option, Some, None, is_some}
use Rattle.std.specs.Option.{option_map_or}
use Rattle.v_hierarchy.specs.declared.places.Places.{Places}
use Rattle.v_hierarchy.specs.Places.{place_in}
use Rattle.v_hierarchy.specs.Names.{Entry}
use Rattle.v_binding.specs.Signals.{declared_at}

abbrev pub is_in : Places → List ℕ → Bool
is_in table name = is_some (place_in table name)

-- whether a token is less than that of a name
abbrev pub is_behind : Places → List ℕ → ℕ → Bool
is_behind table name token = option_map_or (λ last. nat_lt token last) (place_in table name) false

-- the greater one of a token and one that is there before
abbrev pub last_with : ℕ → Option ℕ → ℕ
last_with token None = token
last_with token (Some last) = max last token

-- a table has for each name the token with which it is first declared
abbrev pub HasFirsts : Places → List Entry → Type 0
HasFirsts table entries = (name : List ℕ) → place_in table name ≡ declared_at name entries
