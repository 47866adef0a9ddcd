-- Worked examples of designs.
use Rattle.std.proofs.Common.{◌≡◌, ℕ, true, false, List, [], ◌∷◌, Some, None, map, refl}
use Rattle.std.specs.Prelude.{codes, decimal}
use Rattle.design_core.specs.declared.signal.Signal.{Signal}
use Rattle.design_core.specs.declared.signal.SignalKind.TheVariants as kind
use Rattle.design_core.specs.declared.expression.UnaryOp.TheVariants.{Not}
use Rattle.design_core.specs.declared.expression.BinaryOp.TheVariants as binary_op
use Rattle.design_core.specs.declared.expression.Node.TheVariants.{Const, Whole, Unary, Binary}
use Rattle.design_core.specs.declared.statement.Stmt.TheVariants.{Set}
use Rattle.design_core.specs.declared.driver.Driver.TheVariants.{Cont}
use Rattle.design_core.specs.declared.place.PlaceKind.TheVariants as place_kind
use Rattle.aiger_text.specs.declared.row.Row.{Row}
use Rattle.aiger_text.specs.declared.row.Row.TheVariants.{Input, Latch, Output, And}
use Rattle.aiger_design.specs.declared.numbering.Numbering.{Numbering}
use Rattle.aiger_design.specs.Numbering.{row_signal, signal_count, is_too_large}
use Rattle.aiger_design.specs.Signals.{signal, signals_of, zero_word, one_word}
use Rattle.aiger_design.specs.Values.{bit_of, value}
use Rattle.aiger_design.specs.Drivers.{whole, place, drivers_of, blocks_of, places_of}

-- `2`, `4`, `6`, `6 2 4` on the lines 2 to 5: an AND of two inputs
abbrev gate : List Row
gate = Input 2 ∷ Input 4 ∷ Output 6 ∷ And 6 2 4 ∷ []

abbrev gate_numbers : Numbering
gate_numbers = record { counts = record { most = 3; inputs = 2; latches = 0; outputs = 1; ands = 1 }; clocks = 0; left_out = 2 }

pub a_gate_has_a_net_for_its_and_and_one_for_its_output : map (λ (s : Signal). s.path) (signals_of gate gate_numbers (codes "a" ∷ codes "b" ∷ codes "y" ∷ []))
    ≡ codes "a" ∷ codes "b" ∷ (97 ∷ decimal 6) ∷ codes "y" ∷ []
a_gate_has_a_net_for_its_and_and_one_for_its_output = refl

pub the_and_is_a_place_and_the_output_is_none : drivers_of gate gate_numbers
    ≡ Cont (whole 2) (bit_of (Binary binary_op.And (bit_of (Whole 0)) (bit_of (Whole 1)))) (Some 0) (record { from = 5; to = 5 })
    ∷ Cont (whole 3) (bit_of (Whole 2)) None (record { from = 4; to = 4 })
    ∷ []
the_and_is_a_place_and_the_output_is_none = refl

pub the_place_of_an_and_has_its_line_and_its_path : places_of gate gate_numbers (codes "m") ≡ place place_kind.And (codes "m") (97 ∷ decimal 6) 5 2 ∷ []
the_place_of_an_and_has_its_line_and_its_path = refl

-- `2 3` and `2` on the lines 2 and 3: a latch that follows its negation, with a clock
abbrev toggle : List Row
toggle = Latch 2 3 ∷ Output 2 ∷ []

abbrev toggle_numbers : Numbering
toggle_numbers = record { counts = record { most = 1; inputs = 0; latches = 1; outputs = 1; ands = 0 }; clocks = 1; left_out = 0 }

pub a_latch_is_a_register_behind_the_clock : signals_of toggle toggle_numbers (codes "clk" ∷ codes "y" ∷ [])
    ≡ signal kind.Input (codes "clk") ∷ signal kind.Reg (108 ∷ decimal 2) ∷ signal kind.Net (codes "y") ∷ []
a_latch_is_a_register_behind_the_clock = refl

pub its_block_assigns_it_and_is_a_place : (blocks_of toggle toggle_numbers ≡ record { reset = None; body = Set 0 (whole 1) (bit_of (Unary Not (bit_of (Whole 1)))) true } ∷ [])
    × (places_of toggle toggle_numbers (codes "m") ≡ place place_kind.Step (codes "m") (codes "m") 2 1 ∷ [])
its_block_assigns_it_and_is_a_place = (refl, refl)

pub constants_are_0_and_1 : (value toggle toggle_numbers 0 ≡ bit_of (Const zero_word)) × (value toggle toggle_numbers 1 ≡ bit_of (Const one_word))
constants_are_0_and_1 = (refl, refl)

-- the second of three inputs is the clock: the others keep their order behind it
abbrev three_inputs : Numbering
three_inputs = record { counts = record { most = 3; inputs = 3; latches = 0; outputs = 0; ands = 0 }; clocks = 1; left_out = 1 }

pub the_input_that_is_the_clock_has_its_number : (row_signal three_inputs 0 ≡ 1) × (row_signal three_inputs 1 ≡ 0) × (row_signal three_inputs 2 ≡ 2) × (signal_count three_inputs ≡ 3)
the_input_that_is_the_clock_has_its_number = (refl, refl, refl, refl)

abbrev with_ands : ℕ → Numbering
with_ands ands = record { counts = record { most = 0; inputs = 0; latches = 1; outputs = 0; ands = ands }; clocks = 0; left_out = 0 }

pub ands_and_latches_are_counted_together : (is_too_large (with_ands 65535) ≡ false) × (is_too_large (with_ands 65536) ≡ true)
ands_and_latches_are_counted_together = (refl, refl)
