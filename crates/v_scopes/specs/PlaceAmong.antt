-- The first place of a name among others.
use Rattle.std.specs.Prelude.{ℕ, suc, List, [], ◌∷◌, Option, Some, None, option_map, if◌then◌else◌}
use Rattle.v_hierarchy.specs.Names.{same_name}

abbrev pub place_among : List ℕ → List (List ℕ) → Option ℕ
place_among name [] = None
place_among name (x ∷ xs) = if same_name x name then Some 0 else option_map suc (place_among name xs)
