-- Distances, cut to what a word's bits can tell apart.
use Rattle.std.specs.Prelude.{ℕ, min, ℤ, pos, negsuc}

-- a distance, or one beyond each word's bits on its side
abbrev pub capped : ℤ → ℤ
capped (pos n) = pos (min n 1000)
capped (negsuc n) = negsuc (min n 1000)

-- an index, or one that lies beyond every range
abbrev pub near : ℤ → ℤ
near (pos n) = pos (min n 1099511627776)
near (negsuc n) = negsuc (min n 1099511627776)
