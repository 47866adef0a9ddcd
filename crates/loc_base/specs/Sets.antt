-- Sets as ascending lists of numbers, and the order in which sets are listed.
use Rattle.std.specs.Prelude.{ℕ, ◌==◌, Bool, false, ◌&&◌, ◌||◌, nat_lt, List, [], ◌∷◌, length}

-- whether one list of numbers stands before another of its length: by the first number that differs
abbrev pub is_lower : List ℕ → List ℕ → Bool
is_lower [] ys = false
is_lower (x ∷ xs) [] = false
is_lower (x ∷ xs) (y ∷ ys) = nat_lt x y || (x == y && is_lower xs ys)

-- whether one set comes before another: by size, then by members
abbrev pub is_before : List ℕ → List ℕ → Bool
is_before one other = nat_lt (length one) (length other) || (length one == length other && is_lower one other)
