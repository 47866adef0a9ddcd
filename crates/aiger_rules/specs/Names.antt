-- The names of ports (Biere, The AIGER And-Inverter Graph (AIG) Format, 2007, the symbol table): that of its symbol, with each byte
-- that a Verilog name can't have put to `_`, else `i` or `o` and its position.
use Rattle.std.specs.Prelude.{ℕ, ◌≡◌, ◌+◌, ◌-◌, ◌==◌, Bool, ◌&&◌, ◌||◌, nat_lt, nat_le, if◌then◌else◌, List, [], ◌∷◌, map, slice_get, decimal, Option, None, Some}
use Rattle.std.specs.Option.{option_map_or}
use Rattle.aiger_text.specs.declared.row.Counts.{Counts}
use Rattle.aiger_text.specs.declared.row.Section.{Section}
use Rattle.aiger_text.specs.declared.row.Section.TheVariants.{Inputs, Latches, Outputs, Ands}
use Rattle.aiger_text.specs.Rows.{first_output}
use Rattle.aiger_text.specs.Symbols.{PlainSymbol}
use Rattle.aiger_text.specs.Content.{Content}
use Rattle.aiger_rules.specs.First.{first_of, place_of}
use Rattle.aiger_rules.specs.declared.firsts.Firsts.{Firsts}

-- a byte of a plain name: a letter, a digit, `_` or `$`
abbrev pub is_plain : ℕ → Bool
is_plain byte =
    nat_le 65 byte && nat_le byte 90 || nat_le 97 byte && nat_le byte 122 || nat_le 48 byte && nat_le byte 57 || byte == 95 || byte == 36

-- the byte, or `_`
abbrev pub plain_byte : ℕ → ℕ
plain_byte byte = if is_plain byte then byte else 95

-- a position below a count, moved up by how many rows stand before
abbrev pub row_below : ℕ → ℕ → ℕ → Option ℕ
row_below before count position = if nat_lt position count then Some (before + position) else None

-- the number of the row at a position of a section, where there is one
abbrev pub row_in : Counts → Section → ℕ → Option ℕ
row_in c Inputs position = row_below 0 c.inputs position
row_in c Latches position = row_below c.inputs c.latches position
row_in c Outputs position = row_below (first_output c) c.outputs position
row_in c Ands position = None

-- the number of the row that a symbol names, where its position is one
abbrev pub named_row : Counts → PlainSymbol → Option ℕ
named_row c symbol = row_in c symbol.section symbol.position

-- the place of the first symbol that names a row
abbrev pub symbol_of : Content → ℕ → Option ℕ
symbol_of w row = first_of (map (named_row w.counts) w.symbols) row

-- the name in a symbol, plain
abbrev pub plain_text : List PlainSymbol → ℕ → List ℕ
plain_text symbols place = option_map_or (λ symbol. map plain_byte symbol.text) (slice_get symbols place) []

-- the name of a port that has no symbol: a letter and its position
abbrev pub own_name : ℕ → ℕ → List ℕ
own_name letter position = letter ∷ decimal position

-- that of the port of a row: `i` of an input, `o` of an output
abbrev pub row_name : Counts → ℕ → List ℕ
row_name c row = if nat_lt row c.inputs then own_name 105 row else own_name 111 (row - first_output c)

-- the name of the port of an input's or output's row
abbrev pub port_name : Content → ℕ → List ℕ
port_name w row = option_map_or (plain_text w.symbols) (symbol_of w row) (row_name w.counts row)

-- a table has the place of the first symbol that names each row
abbrev pub AreSymbols : Content → Firsts → Type 0
AreSymbols w firsts = (row : ℕ) → place_of firsts row ≡ symbol_of w row
