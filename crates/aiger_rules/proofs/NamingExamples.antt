-- Worked examples of ports and their names.
use Rattle.std.proofs.Common.{◌≡◌, ℕ, true, false, List, [], ◌∷◌, Some, None, refl}
use Rattle.std.specs.Prelude.{codes, decimal, slice_index}
use Rattle.aiger_text.specs.declared.row.Row.TheVariants.{Input, Latch, Output}
use Rattle.aiger_text.specs.declared.row.Section.{Section}
use Rattle.aiger_text.specs.declared.row.Section.TheVariants.{Inputs, Latches, Outputs}
use Rattle.aiger_text.specs.Symbols.{PlainSymbol}
use Rattle.aiger_text.specs.Content.{Content}
use Rattle.aiger_rules.specs.Names.{port_name}
use Rattle.aiger_rules.specs.Ports.{clock_row, port_rows, port_names, port_lines}
use Rattle.aiger_rules.specs.Naming.{is_misplaced, is_double}

abbrev symbol : Section → ℕ → List ℕ → PlainSymbol
symbol section position text = record { section = section; position = position; text = text }

-- two inputs, a latch that follows the first, and an output of the latch, with some symbols
abbrev follower : List PlainSymbol → Content
follower symbols = record {
  counts = record { most = 3; inputs = 2; latches = 1; outputs = 1; ands = 0 };
  rows = Input 2 ∷ Input 4 ∷ Latch 6 2 ∷ Output 6 ∷ [];
  symbols = symbols;
}

pub a_port_without_a_symbol_has_its_position : port_names (follower []) None ≡ (105 ∷ decimal 0) ∷ (105 ∷ decimal 1) ∷ (111 ∷ decimal 0) ∷ []
a_port_without_a_symbol_has_its_position = refl

pub bytes_that_a_name_cannot_have_are_underscores : port_name (follower (symbol Inputs 1 (codes "a[0].b") ∷ [])) 1 ≡ codes "a_0__b"
bytes_that_a_name_cannot_have_are_underscores = refl

-- ---- the clock

abbrev clocked : ℕ → Content
clocked position = follower (symbol Inputs position (codes "clk") ∷ [])

pub an_input_that_nothing_reads_is_the_clock : (clock_row (clocked 1) (Some (codes "clk")) ≡ Some 1) × (port_names (clocked 1) (Some (codes "clk")) ≡ codes "clk" ∷ (105 ∷ decimal 0) ∷ (111 ∷ decimal 0) ∷ [])
an_input_that_nothing_reads_is_the_clock = (refl, refl)

pub an_input_that_is_read_is_not : (clock_row (clocked 0) (Some (codes "clk")) ≡ None) × (is_double (port_names (clocked 0) (Some (codes "clk"))) 1 ≡ true)
    × (slice_index (port_lines (clocked 0) (Some (codes "clk"))) 1 ≡ 6)
an_input_that_is_read_is_not = (refl, refl, refl)

pub a_clock_that_is_no_input_is_a_port : (clock_row (clocked 1) (Some (codes "ck")) ≡ None) × (port_rows (clocked 1) (Some (codes "ck")) ≡ 0 ∷ 1 ∷ 3 ∷ [])
a_clock_that_is_no_input_is_a_port = (refl, refl)

-- ---- `i0 a`, `i1 a`, `i1 b` on the lines 6 to 8: the second is the line of the port `i1`, whose name is that of `i0`; the third is a second symbol

abbrev twice : Content
twice = follower (symbol Inputs 0 (codes "a") ∷ symbol Inputs 1 (codes "a") ∷ symbol Inputs 1 (codes "b") ∷ [])

pub a_second_name_is_on_the_line_of_its_symbol : (is_double (port_names twice None) 1 ≡ true) × (slice_index (port_lines twice None) 1 ≡ 7) × (is_misplaced twice 1 ≡ false)
a_second_name_is_on_the_line_of_its_symbol = (refl, refl, refl)

pub a_second_symbol_is_misplaced : is_misplaced twice 2 ≡ true
a_second_symbol_is_misplaced = refl

pub a_symbol_needs_a_place_and_a_name : (is_misplaced (follower (symbol Latches 1 (codes "r") ∷ [])) 0 ≡ true) × (is_misplaced (follower (symbol Latches 0 (codes "r") ∷ [])) 0 ≡ false)
    × (is_misplaced (follower (symbol Outputs 0 [] ∷ [])) 0 ≡ true)
a_symbol_needs_a_place_and_a_name = (refl, refl, refl)
