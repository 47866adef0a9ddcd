-- What a text of the ASCII format has: a header, rows, and symbols.
use Rattle.std.specs.Prelude.{ℕ, ◌≡◌, ◌<◌, true, List, length, drop, slice_get, map, Some}
use Rattle.aiger_text.specs.declared.row.Counts.{Counts}
use Rattle.aiger_text.specs.declared.row.Row.{Row}
use Rattle.aiger_text.specs.declared.content.Content.{Content as Held}
use Rattle.aiger_text.specs.Lines.{lines}
use Rattle.aiger_text.specs.Rows.{header, row_at, row_count}
use Rattle.aiger_text.specs.Symbols.{PlainSymbol, plain, first_symbol, is_end}

pub record Content : Type 0 where
  pub counts : Counts
  pub rows : List Row
  pub symbols : List PlainSymbol

-- what the code holds of it
abbrev pub content_of : Held → Content
content_of held = record { counts = held.counts; rows = held.rows.items; symbols = map plain held.symbols.items }

-- the rows that the counts ask for stand at the front of some lines
pub record HasRows (front : List (List ℕ)) (c : Counts) (rows : List Row) : Type 0 where
  pub long : length rows ≡ row_count c
  pub each : (k : ℕ) → k < row_count c → row_at front c k ≡ slice_get rows k

-- these symbols, and behind them nothing more
pub record HasSymbols (front : List (List ℕ)) (symbols : List PlainSymbol) : Type 0 where
  pub each : (p : ℕ) → p < length symbols → first_symbol (drop p front) ≡ slice_get symbols p
  pub end : is_end (drop (length symbols) front) ≡ true

-- rows and symbols stand in the lines behind the header
pub record IsBehind (front : List (List ℕ)) (w : Content) : Type 0 where
  pub rows : HasRows front w.counts w.rows
  pub symbols : HasSymbols (drop (row_count w.counts) front) w.symbols

-- what a text has
pub record IsWritten (text : List ℕ) (w : Content) : Type 0 where
  pub header : header (lines text) ≡ Some w.counts
  pub behind : IsBehind (drop 1 (lines text)) w
