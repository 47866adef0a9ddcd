-- The clock, and the ports. Tools that write files of clocked designs leave the clock's port as an input that nothing reads: where a clock
-- is named, the first input that has its name is that clock if no row reads it, and is no port of its own.
use Rattle.std.specs.Prelude.{ℕ, ◌+◌, ◌-◌, ◌==◌, Bool, if◌then◌else◌, List, ◌++◌, map, slice_get, unwrap_or, Option, None, Some}
use Rattle.std.specs.Str.{bytes_eq}
use Rattle.std.specs.List.{list_any, range_with_len}
use Rattle.std.specs.Option.{option_map_or, option_and_then, option_to_list}
use Rattle.aiger_text.specs.declared.row.Counts.{Counts}
use Rattle.aiger_text.specs.declared.row.Row.{Row}
use Rattle.aiger_text.specs.Rows.{row_count, first_output}
use Rattle.aiger_text.specs.Content.{Content}
use Rattle.aiger_rules.specs.First.{first_at}
use Rattle.aiger_rules.specs.Literals.{defined, some_read, even}
use Rattle.aiger_rules.specs.Names.{symbol_of, port_name}

-- whether some row reads a literal's variable
abbrev pub is_read : List Row → ℕ → Bool
is_read rows literal = list_any (some_read (λ read. even read == literal)) rows

-- the literal that the row of a number defines, and 0 of one that defines none
abbrev pub literal_at : List Row → ℕ → ℕ
literal_at rows number = option_map_or (λ row. unwrap_or (defined row) 0) (slice_get rows number) 0

-- the row of the first input that has a name
abbrev pub input_named : Content → List ℕ → Option ℕ
input_named w name = first_at (λ row. bytes_eq (port_name w row) name) 0 (range_with_len 0 w.counts.inputs)

-- the row of an input that no row reads
abbrev pub unread : Content → ℕ → Option ℕ
unread w row = if is_read w.rows (literal_at w.rows row) then None else Some row

-- the row of the input that is the clock
abbrev pub clock_row : Content → Option (List ℕ) → Option ℕ
clock_row w clock = option_and_then (λ name. option_and_then (unread w) (input_named w name)) clock

-- the row of the input that is left out of the ports, the clock's; the number of inputs where none is
abbrev pub left_out : Content → Option (List ℕ) → ℕ
left_out w clock = unwrap_or (clock_row w clock) w.counts.inputs

-- the rows of the ports: of the inputs before that one and behind it, then of the outputs
abbrev pub rows_without : Counts → ℕ → List ℕ
rows_without c out = range_with_len 0 out ++ range_with_len (out + 1) (c.inputs - (out + 1)) ++ range_with_len (first_output c) c.outputs

abbrev pub port_rows : Content → Option (List ℕ) → List ℕ
port_rows w clock = rows_without w.counts (left_out w clock)

-- the names of the ports, the clock's first
abbrev pub port_names : Content → Option (List ℕ) → List (List ℕ)
port_names w clock = option_to_list clock ++ map (port_name w) (port_rows w clock)

-- the line of a symbol, counted from 1, and the line of the port of a row: that of its symbol, else that of the row
abbrev pub symbol_line : Content → ℕ → ℕ
symbol_line w place = row_count w.counts + place + 2

abbrev pub port_line : Content → ℕ → ℕ
port_line w row = option_map_or (symbol_line w) (symbol_of w row) (row + 2)

-- the lines of the ports; the clock has none, and is given that of the header
abbrev pub port_lines : Content → Option (List ℕ) → List ℕ
port_lines w clock = map (λ name. 1) (option_to_list clock) ++ map (port_line w) (port_rows w clock)
