-- What private functions answer where a line is lacking or isn't of its shape.
use Rattle.std.specs.Prelude.{ℕ, ◌≡◌, ◌+◌, ◌<◌, true, false, List, length, drop, Some, None}
use Rattle.aiger_text.specs.declared.row.Counts.{Counts}
use Rattle.aiger_text.specs.declared.fault.AigerErr.{AigerErr}
use Rattle.aiger_text.specs.declared.fault.AigerErr.TheVariants.{TooLong, Header, Shape, Literal, Naming, Places, NoMemory}
use Rattle.aiger_text.specs.declared.symbols.SymbolLine.{SymbolLine}
use Rattle.aiger_text.specs.declared.symbols.SymbolLine.TheVariants as line
use Rattle.aiger_text.specs.Lines.{lines}
use Rattle.aiger_text.specs.Symbols.{plain, first_symbol, is_end}
use Rattle.aiger_text.specs.Refusals.{LacksRow, LacksEnd, IsFirst}

-- a line that some fact is said of, or want of memory
abbrev pub OfLine : (ℕ → Type 0) → AigerErr → Type 0
OfLine P TooLong = ⊥
OfLine P Header = ⊥
OfLine P (Shape line) = P line
OfLine P (Literal line) = ⊥
OfLine P (Naming line) = ⊥
OfLine P Places = ⊥
OfLine P NoMemory = Unit {0}

-- the row of some line is lacking
abbrev pub RowsEnd : List (List ℕ) → Counts → AigerErr → Type 0
RowsEnd front c fault = OfLine (λ line. (k : ℕ) × LacksRow front c k × (line ≡ k + 2)) fault

-- neither a symbol nor an end stands on some line, the first being given
abbrev pub SymbolsEnd : List (List ℕ) → ℕ → AigerErr → Type 0
SymbolsEnd front first fault = OfLine (λ line. (p : ℕ) × LacksEnd front p × (line ≡ first + p)) fault

-- some line behind the header is the first that is lacking or isn't of its shape
abbrev pub LacksLine : List (List ℕ) → Counts → AigerErr → Type 0
LacksLine front c fault = OfLine (IsFirst front c) fault

-- what the first line of a text is
abbrev pub IsSymbolLine : List ℕ → SymbolLine → Type 0
IsSymbolLine text (line.Symbol symbol rest) = (first_symbol (lines text) ≡ Some (plain symbol)) × (drop 1 (lines text) ≡ lines rest.now) × (length rest.now < length text)
IsSymbolLine text line.End = is_end (lines text) ≡ true
IsSymbolLine text line.Other = (first_symbol (lines text) ≡ None) × (is_end (lines text) ≡ false)
