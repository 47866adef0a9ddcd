-- The reading of a text of lines, each of which is one piece.
use Rattle.std.specs.Prelude.{ℕ, ◌≡◌, ◌+◌, List, [], ◌∷◌, ◌++◌, length}
use Rattle.vcd_words.specs.Words.{Placed}
use Rattle.vcd_words.specs.Lines.{line_words, AreBlack}
use Rattle.vcd_reading.specs.Scopes.{Sought}
use Rattle.vcd_reading.specs.Changes.{Past}
use Rattle.vcd_reading.specs.Reading.{step}
use Rattle.vcd_reading.specs.Reading.Step.{goes}

-- a line is a piece wherever it stands, and reading goes on behind it
abbrev pub IsDeed : Sought → ℕ → Past → List ℕ → List (List ℕ) → Past → Type 0
IsDeed sought end past word words next =
    (at : ℕ) (behind : List Placed)
    → step sought end past (record { at = at; word = word })
    (line_words (at + length word + 1) words ++ behind) ≡ goes next behind

-- lines that are read one after another
pub data Runs (sought : Sought) (end : ℕ) : Past → List (List (List ℕ)) → Past → Type 0 where
  no_line : {past : Past} → Runs sought end past [] past
  one_line : {past next last : Past} {word : List ℕ} {words : List (List ℕ)} {lines : List (List (List ℕ))}
      → AreBlack (word ∷ words) → IsDeed sought end past word words next → Runs sought end next lines last
      → Runs sought end past ((word ∷ words) ∷ lines) last
