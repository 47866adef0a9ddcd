-- A list of lists that lie one behind the other in one list.
use Rattle.std.specs.Prelude.{◌≡◌, ℕ, ◌≤◌, List, [], ◌∷◌, slice_range}

-- the rows of `items` from the place `from` on, each of which ends at its number in `ends`
abbrev pub cut : {T : Type 0} → List T → ℕ → List ℕ → List (List T)
cut items from [] = []
cut items from (end ∷ ends) = slice_range items from end ∷ cut items end ends

-- the ends ascend from `from` to `total`
abbrev pub EndsAscend : ℕ → List ℕ → ℕ → Type 0
EndsAscend from [] total = from ≡ total
EndsAscend from (end ∷ ends) total = (from ≤ end) × EndsAscend end ends total
