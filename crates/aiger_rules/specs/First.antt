-- The first element that passes a test, and a table of the places of first keys.
use Rattle.std.specs.Prelude.{ℕ, Bool, false, ◌+◌, ◌==◌, List, [], ◌∷◌, Option, None, Some, if◌then◌else◌, nat_eq, unwrap_or}
use Rattle.std.specs.Option.{option_map_or}
use Rattle.std.specs.HashMap as hash
use Rattle.aiger_rules.specs.declared.firsts.Firsts.{Firsts}

-- the place of the first element that passes a test, the places being counted from a number
abbrev pub first_at : {A : Type 0} → (A → Bool) → ℕ → List A → Option ℕ
first_at test at [] = None
first_at test at (x ∷ xs) = if test x then Some at else first_at test (at + 1) xs

-- whether a key is there and is a given one
abbrev pub is_key : ℕ → Option ℕ → Bool
is_key key one = option_map_or (λ own. own == key) one false

-- the place of the first key that is a given one
abbrev pub first_of : List (Option ℕ) → ℕ → Option ℕ
first_of keys key = first_at (is_key key) 0 keys

-- the place that a table has for a key
abbrev pub place_of : Firsts → ℕ → Option ℕ
place_of firsts key = hash.get_by (nat_eq key) firsts.places

-- the places once a key was met at one: a key that was met before keeps its place
abbrev pub with_place : (ℕ → Option ℕ) → Option ℕ → ℕ → ℕ → Option ℕ
with_place places None place key = places key
with_place places (Some own) place key = if nat_eq own key then Some (unwrap_or (places own) place) else places key
