-- What a name is: at least one byte, each printable ASCII other than the space.
use Rattle.std.specs.Prelude.{ℕ, ◌≢◌, ◌≤◌, List, [], All}

-- a printable byte that is not the space
abbrev pub IsNameByte : ℕ → Type 0
IsNameByte byte = (33 ≤ byte) × (byte ≤ 126)

-- at least one byte, and each of them printable and not the space
abbrev pub IsName : List ℕ → Type 0
IsName bytes = (bytes ≢ []) × All IsNameByte bytes
