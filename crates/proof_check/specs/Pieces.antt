-- The pieces of a text between bytes of one value.
use Rattle.std.specs.Prelude.{ℕ, ◌==◌, List, [], Option, Some, None}
use Rattle.std.specs.List.{slice_split}
use Rattle.std.specs.Borrow.{Bor}

-- the pieces of what follows, if anything does
abbrev pub pieces_after : ℕ → Option (Bor (List ℕ)) → List (List ℕ)
pieces_after byte None = []
pieces_after byte (Some rest) = slice_split (λ b. b == byte) rest.now
