-- Lines of a text: each but the last ends with a newline.
use Rattle.std.specs.Prelude.{ℕ, ◌≡◌, ◌≢◌, ◌≤◌, ◌<◌, ◌+◌, ◌⊎◌, Bool, ◌==◌, List, Some, slice_get}

abbrev pub is_newline : ℕ → Bool
is_newline byte = byte == 10

-- the line of a place begins with the text or after a newline, and no newline stands between there and the place
pub record IsLineStart (text : List ℕ) (at start : ℕ) : Type 0 where
  pub within : start ≤ at
  pub begins : (start ≡ 0) ⊎ ((k : ℕ) × (start ≡ k + 1) × (slice_get text k ≡ Some 10))
  pub none : (k : ℕ) → start ≤ k → k < at → slice_get text k ≢ Some 10
