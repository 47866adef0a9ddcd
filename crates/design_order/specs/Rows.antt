-- Rows of numbers, for what is private to this crate: the row of a number has those that it needs.
use Rattle.std.specs.Prelude.{ℕ, ◌≡◌, ◌<◌, ◌==◌, Bool, not, List, [], length, slice_index_or, count_by, All, Contains}
use Rattle.std.specs.List.{list_any}

abbrev pub row : List (List ℕ) → ℕ → List ℕ
row rows i = slice_index_or rows i []

-- a number needs another: its row has it
abbrev pub Listed : List (List ℕ) → ℕ → ℕ → Type 0
Listed rows i j = Contains (row rows i) j

-- whether a list has a number, and how many times
abbrev pub has : List ℕ → ℕ → Bool
has xs k = list_any (λ x. x == k) xs

abbrev pub times : ℕ → List ℕ → ℕ
times k xs = count_by (λ x. x == k) xs

-- how many of a list were not taken
abbrev pub left : (ℕ → Bool) → List ℕ → ℕ
left taken xs = count_by (λ x. not (taken x)) xs

-- each number of each row is that of a row
pub record AreWithin (rows : List (List ℕ)) : Type 0 where
  pub within : (i : ℕ) → All (λ x. x < length rows) (row rows i)

-- for each number those that need it, as often as they do
pub record AreUsers (needs users : List (List ℕ)) : Type 0 where
  pub long : length users ≡ length needs
  pub within : (j : ℕ) → All (λ x. x < length needs) (row users j)
  pub times : (i j : ℕ) → times i (row users j) ≡ times j (row needs i)
