-- Why a text is none of the ASCII format: it is too long, its first line is no header, or a line is the first that is lacking or
-- isn't of its shape. Lines are counted from 1.
use Rattle.std.specs.Prelude.{ℕ, ◌≡◌, ◌≢◌, ◌+◌, ◌<◌, ◌≤◌, false, List, length, drop, Some, None, ◌⊎◌}
use Rattle.aiger_text.specs.declared.row.Counts.{Counts}
use Rattle.aiger_text.specs.declared.row.Row.{Row}
use Rattle.aiger_text.specs.declared.fault.AigerErr.{AigerErr}
use Rattle.aiger_text.specs.declared.fault.AigerErr.TheVariants.{TooLong, Header, Shape, Literal, Naming, Places, NoMemory}
use Rattle.aiger_text.specs.Lines.{lines}
use Rattle.aiger_text.specs.Rows.{header, row_at, row_count}
use Rattle.aiger_text.specs.Symbols.{first_symbol, is_end}
use Rattle.aiger_text.specs.Content.{HasRows}

-- the row of a number is the first that is lacking
pub record LacksRow (front : List (List ℕ)) (c : Counts) (k : ℕ) : Type 0 where
  pub due : k < row_count c
  pub before : (j : ℕ) → j < k → row_at front c j ≢ None
  pub lacking : row_at front c k ≡ None

-- behind as many symbols stands neither another one nor an end
pub record LacksEnd (front : List (List ℕ)) (p : ℕ) : Type 0 where
  pub before : (j : ℕ) → j < p → first_symbol (drop j front) ≢ None
  pub lacking : first_symbol (drop p front) ≡ None
  pub unended : is_end (drop p front) ≡ false

-- all rows stand, and behind them and as many symbols stands neither another one nor an end
pub record LacksSymbol (front : List (List ℕ)) (c : Counts) (p : ℕ) : Type 0 where
  pub rows : List Row
  pub has_rows : HasRows front c rows
  pub lacks : LacksEnd (drop (row_count c) front) p

-- a line is the first behind the header that is lacking or isn't of its shape
abbrev pub IsFirst : List (List ℕ) → Counts → ℕ → Type 0
IsFirst front c line =
    ((k : ℕ) × LacksRow front c k × (line ≡ k + 2)) ⊎ ((p : ℕ) × LacksSymbol front c p × (line ≡ row_count c + 2 + p))

-- the header stands, and the line is the first such line
pub record IsMisshapen (text : List ℕ) (line : ℕ) : Type 0 where
  pub counts : Counts
  pub header : header (lines text) ≡ Some counts
  pub first : IsFirst (drop 1 (lines text)) counts line

-- the most bytes of a text
abbrev pub most_bytes : ℕ
most_bytes = 16777216

-- a text that is not too long
abbrev pub IsShort : List ℕ → Type 0
IsShort text = length text ≤ most_bytes

-- why a text has no content, in the order in which it is asked; want of memory is none of the text's
abbrev pub TextCause : List ℕ → AigerErr → Type 0
TextCause text TooLong = most_bytes < length text
TextCause text Header = IsShort text × (header (lines text) ≡ None)
TextCause text (Shape line) = IsShort text × IsMisshapen text line
TextCause text (Literal line) = ⊥
TextCause text (Naming line) = ⊥
TextCause text Places = ⊥
TextCause text NoMemory = Unit {0}
