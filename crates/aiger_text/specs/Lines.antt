-- Lines and words (Biere, The AIGER And-Inverter Graph (AIG) Format, 2007, the ASCII format): lines end with a newline, and
-- their words are separated by single spaces.
use Rattle.std.specs.Prelude.{ℕ, ◌==◌, if◌then◌else◌, nat_lt, List, [], ◌∷◌, length, Option, None, Some}
use Rattle.std.specs.List.{slice_split, position_or_len, before_first, after_first}
use Rattle.aiger_text.specs.declared.cut.Cut.{Cut}

-- what stands before the first byte of a kind, and what stands behind it
pub record Parts : Type 0 where
  pub front : List ℕ
  pub back : List ℕ

-- a list of bytes cut at the first byte of a kind, where it has one
abbrev pub cut_at : ℕ → List ℕ → Option Parts
cut_at byte bytes =
    if nat_lt (position_or_len (λ b. b == byte) bytes) (length bytes)
    then Some (record { front = before_first (λ b. b == byte) bytes; back = after_first (λ b. b == byte) bytes })
    else None

-- the parts that the code hands on
abbrev pub parts_of : Cut → Parts
parts_of cut = record { front = cut.front.now; back = cut.back.now }

-- the lines of a text, and as the last one what follows the last newline
abbrev pub lines : List ℕ → List (List ℕ)
lines text = slice_split (λ byte. byte == 10) text

-- the words of a line
abbrev pub words : List ℕ → List (List ℕ)
words line = slice_split (λ byte. byte == 32) line

-- the first of some lines, where a newline ends it
abbrev pub first_line : List (List ℕ) → Option (List ℕ)
first_line [] = None
first_line (line ∷ []) = None
first_line (line ∷ next ∷ rest) = Some line
