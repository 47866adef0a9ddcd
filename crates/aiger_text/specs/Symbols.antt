-- The symbol table and the end (Biere, The AIGER And-Inverter Graph (AIG) Format, 2007, the symbol table): lines with a letter for
-- the input, latch or output, its position, a space, and its name, then the end of the text or a line `c`.
use Rattle.std.specs.Prelude.{ℕ, ◌==◌, Bool, false, if◌then◌else◌, codes, List, [], ◌∷◌, length, Option, None, Some}
use Rattle.std.specs.Str.{bytes_eq}
use Rattle.std.specs.Option.{option_and_then}
use Rattle.aiger_text.specs.declared.row.Section.{Section}
use Rattle.aiger_text.specs.declared.row.Section.TheVariants.{Inputs, Latches, Outputs}
use Rattle.aiger_text.specs.declared.symbol.Symbol.{Symbol}
use Rattle.aiger_text.specs.Lines.{Parts, cut_at, first_line}
use Rattle.aiger_text.specs.Numbers.{number_in}

-- a symbol: what it names, by section and position, and the name
pub record PlainSymbol : Type 0 where
  pub section : Section
  pub position : ℕ
  pub text : List ℕ

-- what the code holds of one
abbrev pub plain : Symbol → PlainSymbol
plain symbol = record { section = symbol.section; position = symbol.position; text = symbol.text.now }

-- the section that a letter names: `i`, `l` or `o`
abbrev pub section_of : ℕ → Option Section
section_of letter = if letter == 105 then Some Inputs else if letter == 108 then Some Latches else if letter == 111 then Some Outputs else None

-- a symbol of its parts, where the letter and the position are there
abbrev pub symbol_of : Option Section → Option ℕ → List ℕ → Option PlainSymbol
symbol_of (Some section) (Some position) text = Some (record { section = section; position = position; text = text })
symbol_of (Some section) None text = None
symbol_of None position text = None

-- the symbol that a line is: the name is all behind the first space
abbrev pub symbol_in : List ℕ → Option PlainSymbol
symbol_in [] = None
symbol_in (letter ∷ rest) = option_and_then (λ (cut : Parts). symbol_of (section_of letter) (number_in cut.front) cut.back) (cut_at 32 rest)

-- the symbol that the first of some lines is
abbrev pub first_symbol : List (List ℕ) → Option PlainSymbol
first_symbol lines = option_and_then symbol_in (first_line lines)

-- whether nothing more follows: the text ends here, or a line `c` stands here, behind which all may stand
abbrev pub is_end : List (List ℕ) → Bool
is_end [] = false
is_end (line ∷ []) = length line == 0
is_end (line ∷ next ∷ rest) = bytes_eq line (codes "c")
