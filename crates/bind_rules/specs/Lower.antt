-- The lower of two numbers, for what is private to this crate.
use Rattle.std.specs.Prelude.{ℕ, ◌==◌, Bool, false, min, Option, Some, None}
use Rattle.std.specs.Option.{option_map_or}

-- where there are two
abbrev pub lower_of : Option ℕ → Option ℕ → Option ℕ
lower_of None other = other
lower_of (Some n) None = Some n
lower_of (Some n) (Some m) = Some (min n m)

-- whether a number is the one that there is
abbrev pub is_this : Option ℕ → ℕ → Bool
is_this found n = option_map_or (λ m. m == n) found false
