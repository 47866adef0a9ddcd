-- All sets of at most k of the numbers 1 to n, by size and then by members.
use Rattle.std.specs.Prelude.{ℕ, zero, suc, ◌+◌, List, [], ◌∷◌, ◌++◌, map}

-- each list behind the same members
abbrev pub behind : List ℕ → List (List ℕ) → List (List ℕ)
behind members sets = map (λ others. members ++ others) sets

-- all ways to choose so many of some numbers, in the numbers' order
abbrev pub combinations : ℕ → List ℕ → List (List ℕ)
combinations zero numbers = [] ∷ []
combinations (suc size) [] = []
combinations (suc size) (first ∷ rest) = behind (first ∷ []) (combinations size rest) ++ combinations (suc size) rest

-- the numbers from one on, so many
unfoldable pub numbers_from : ℕ → ℕ → List ℕ
numbers_from first zero = []
numbers_from first (suc count) = first ∷ numbers_from (first + 1) count

-- all sets of 0 to `size` of the numbers 1 to n
unfoldable pub candidates_of : ℕ → ℕ → List (List ℕ)
candidates_of n zero = combinations 0 (numbers_from 1 n)
candidates_of n (suc size) = candidates_of n size ++ combinations (suc size) (numbers_from 1 n)
