-- What a transfer takes from a reader and gives to a writer whose bytes are known.
use Rattle.std.specs.Prelude.{◌≡◌, ℕ, ◌<◌, List, length, take, Option, Some, None}
use Rattle.std.specs.Io.KnownBytes.{Appends}

-- a text is all of the known bytes
abbrev pub IsAllOf : Option (List ℕ) → List ℕ → Type 0
IsAllOf None text = Unit {0}
IsAllOf (Some bytes) text = text ≡ bytes

-- the known bytes are more than a limit
abbrev pub IsMoreThan : ℕ → Option (List ℕ) → Type 0
IsMoreThan limit None = Unit {0}
IsMoreThan limit (Some bytes) = limit < length bytes

-- the known bytes grew by a front of a piece
pub record AppendsSome (old new : Option (List ℕ)) (piece : List ℕ) : Type 0 where
  pub count : ℕ
  pub appended : Appends old new (take count piece)
