-- A scope's names by their places, as a table finds them.
use Rattle.std.specs.Prelude.{◌≡◌, ℕ, suc, List, [], ◌∷◌, nat_eq, Option, Some, None, option_map, if◌then◌else◌}
use Rattle.std.specs.HashMap as hash
use Rattle.std.specs.Cmp.Lexicographic.{pointwise}
use Rattle.v_hierarchy.specs.declared.places.Places.{Places}
use Rattle.v_hierarchy.specs.Names.{Entry, same_name}

-- the place of a name's entry, where it has one
abbrev pub place_of : List ℕ → List Entry → Option ℕ
place_of name [] = None
place_of name (e ∷ es) = if same_name e.name.name name then Some 0 else option_map suc (place_of name es)

-- the place that a table gives to a name
abbrev pub place_in : Places → List ℕ → Option ℕ
place_in places name = hash.get_by (λ key. pointwise nat_eq name key.now) places.by_name

-- the places of names, with that of one name put in its place
abbrev pub with_place : List ℕ → ℕ → (List ℕ → Option ℕ) → List ℕ → Option ℕ
with_place name place places other = if pointwise nat_eq name other then Some place else places other

-- a table has the places of the entries
abbrev pub Tells : Places → List Entry → Type 0
Tells places entries = (name : List ℕ) → place_in places name ≡ place_of name entries
