-- What is kept of a path that is looked for, scope by scope.
use Rattle.std.specs.Prelude.{ℕ, ◌≡◌, ◌==◌, Bool, true, false, if◌then◌else◌, List, [], ◌∷◌, map, Option, Some, None}
use Rattle.std.specs.Borrow.{Bor}
use Rattle.std.specs.Option.{option_map}
use Rattle.vcd_reading.specs.declared.paths.Met.{Met}
use Rattle.vcd_reading.specs.Commands.{same_bytes}
use Rattle.vcd_reading.specs.Scopes.{place_of}

-- what is left of bytes behind others, where they begin with those
abbrev pub bytes_behind : List ℕ → List ℕ → Option (List ℕ)
bytes_behind bytes [] = Some bytes
bytes_behind [] (y ∷ front) = None
bytes_behind (x ∷ bytes) (y ∷ front) = if x == y then bytes_behind bytes front else None

abbrev pub rest_of : Option (Bor (List ℕ)) → Option (List ℕ)
rest_of rest = option_map (λ (bytes : Bor (List ℕ)). bytes.now) rest

-- whether all bytes are taken
abbrev pub is_all : Option (List ℕ) → Bool
is_all None = false
is_all (Some []) = true
is_all (Some (x ∷ bytes)) = false

-- what is left of a path behind each of some paths, and the first of them that it is
pub record IsMet (path : List ℕ) (paths : List (List ℕ)) (met : Met) : Type 0 where
  pub rests : map rest_of met.rests.items ≡ map (bytes_behind path) paths
  pub found : met.found ≡ place_of (same_bytes path) paths
