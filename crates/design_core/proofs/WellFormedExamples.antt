-- Worked examples of what fits in a well-formed design, and of what does not.
use Rattle.std.proofs.Common.{◌≡◌, ℕ, ◌^◌, ◌<◌, ◌≤◌, List, [], ◌∷◌, refl, lit<, lit≤}
use Rattle.std.specs.Prelude.{Bool, true, false, pos, Some}
use Rattle.loc_base.specs.declared.bits.Bits.{Bits}
use Rattle.design_core.specs.declared.signal.Signal.{Signal}
use Rattle.design_core.specs.declared.signal.SignalKind.TheVariants as kind
use Rattle.design_core.specs.declared.expression.BinaryOp.{BinaryOp}
use Rattle.design_core.specs.declared.expression.BinaryOp.TheVariants as binary_op
use Rattle.design_core.specs.declared.expression.Typed.{Typed}
use Rattle.design_core.specs.declared.expression.Node.{end_of-Typed, more_of-Typed}
use Rattle.design_core.specs.declared.expression.Node.TheVariants as node
use Rattle.design_core.specs.declared.statement.Part.TheVariants as part
use Rattle.design_core.specs.declared.statement.Stmt.{Stmt}
use Rattle.design_core.specs.declared.statement.Stmt.TheVariants as stmt
use Rattle.design_core.specs.declared.driver.Clocked.{Clocked}
use Rattle.design_core.specs.declared.place.Place.{Place}
use Rattle.design_core.specs.declared.place.PlaceKind.TheVariants as place_kind
use Rattle.design_core.specs.declared.design.Design.{Design}
use Rattle.design_core.specs.Valuation.{Valuation}
use Rattle.design_core.specs.After.{Updates, after}
use Rattle.design_core.specs.Drives.{block_drives}
use Rattle.design_core.specs.WellFormed.{typed_fits, clocked_fits}
use Rattle.design_core.specs.Works.{suspect_has, places_of}
use Rattle.design_core.proofs.Examples.{Any, vec, declared, scalar, none_freed}

-- a word of some bits
abbrev word : (width value : ℕ) → 1 ≤ width → width ≤ 128 → value < 2 ^ width → Bits
word width value least most within = record { width = width; value = value; at_least_one = least; at_most_128 = most; in_range = within }

-- ---- signs: an operator on two 4-bit operands
abbrev applied : Any → BinaryOp → ℕ → Bool → Bool → Bool → Typed
applied any op width signed left right =
    record { width = width; signed = signed; node = node.Binary' op tt (more_of-Typed 4 left (node.Whole 0) end_of-Typed) tt (more_of-Typed 4 right (node.Whole 0) end_of-Typed) }

abbrev operand : Any → List Signal
operand any = declared any 4 (pos 3) (pos 0) kind.Net ∷ []

-- in `(a >>> b) + c` with a signed a and an unsigned c all is unsigned, a as well
pub an_arithmetic_shift_has_the_sign_of_its_left_operand : (any : Any) → let op = binary_op.ArithmeticShiftRight in
    (typed_fits (operand any) (applied any op 4 true true false) ≡ true) × (typed_fits (operand any) (applied any op 4 false false true) ≡ true)
    × (typed_fits (operand any) (applied any op 4 false true false) ≡ false) × (typed_fits (operand any) (applied any op 4 true false true) ≡ false)
an_arithmetic_shift_has_the_sign_of_its_left_operand any = (refl, refl, refl, refl)

pub the_operands_of_a_comparison_have_one_sign : (any : Any) → let op = binary_op.Less in
    (typed_fits (operand any) (applied any op 1 false true true) ≡ true) × (typed_fits (operand any) (applied any op 1 false false false) ≡ true)
    × (typed_fits (operand any) (applied any op 1 false true false) ≡ false) × (typed_fits (operand any) (applied any op 1 false false true) ≡ false)
the_operands_of_a_comparison_have_one_sign any = (refl, refl, refl, refl)

-- ---- out of range in a reset: always @(posedge clk or posedge rst) if (rst) y[8] <= 1'b0; else ; with reg [7:0] y;
-- clk is signal 0, rst 1, y 2
abbrev constant : (width value : ℕ) → 1 ≤ width → width ≤ 128 → value < 2 ^ width → Typed
constant width value least most within = record { width = width; signed = true; node = node.Const (word width value least most within) }

-- a bit of y by an index, cleared
abbrev cleared : Any → Typed → Stmt
cleared any index = stmt.Set 0
    (record { parts = part.Pick 2 index (pos 0 ∷ []) ∷ [] })
    (constant 1 0 (lit≤ tt) (lit≤ tt) (lit< tt)) true

abbrev reset_block : Any → Typed → Clocked
reset_block any index = record { reset = Some (record { signal = 1; level = true; values = cleared any index }); body = stmt.Nothing }

abbrev one_place : Any → Place
one_place any = record {
  kind = place_kind.Step;
  width = 1;
  site = 0;
  home = 0;
  copy = 0;
  line = 1;
  «module» = any.path;
  path = any.path;
  signal = 2;
}

abbrev reset_of : Any → Typed → Design
reset_of any index = record {
  signals = vec any (scalar any kind.Input ∷ scalar any kind.Input ∷ declared any 8 (pos 7) (pos 0) kind.Reg ∷ []) (lit< tt);
  drivers = vec any [] (lit< tt);
  clocked = vec any (reset_block any index ∷ []) (lit< tt);
  places = vec any (one_place any ∷ []) (lit< tt);
  inputs = vec any (1 ∷ []) (lit< tt);
  outputs = vec any (2 ∷ []) (lit< tt);
}

abbrev eight : Typed
eight = constant 32 8 (lit≤ tt) (lit≤ tt) (lit< tt)

pub a_reset_may_select_out_of_range : (any : Any) → clocked_fits (reset_of any eight) (reset_block any eight) ≡ true
a_reset_may_select_out_of_range any = refl

abbrev begun : Valuation → Updates
begun V = record { now = V; later = V }

pub it_stores_nothing_there : (any : Any) (V : Valuation) → after (reset_of any eight).signals.items none_freed (cleared any eight) (begun V) ≡ begun V
it_stores_nothing_there any V = refl

-- by a variable index, here rst, it may not select
pub a_reset_may_not_select_by_a_variable : (any : Any) → let index : Typed = record { width = 1; signed = false; node = node.Whole 1 } in
    clocked_fits (reset_of any index) (reset_block any index) ≡ false
a_reset_may_not_select_by_a_variable any = refl

-- ---- y[3] with the index carried from 3 bits to 32: a constant in a reset, and still no bit of y is told by it
abbrev three : Typed
three = constant 3 3 (lit≤ tt) (lit≤ tt) (lit< tt)

abbrev carried : Typed
carried = record { width = 32; signed = true; node = node.Resize' tt (more_of-Typed 3 true three.node end_of-Typed) }

pub an_index_carried_to_another_width_is_a_constant : (any : Any) → clocked_fits (reset_of any carried) (reset_block any carried) ≡ true
an_index_carried_to_another_width_is_a_constant any = refl

-- it stores into bit 3 alone, and drives each bit, where the constant itself drives bit 3 alone
pub but_it_drives_each_bit : (any : Any) → let signals = (reset_of any carried).signals.items in
    (block_drives signals 2 0 (reset_block any carried) ≡ true) × (block_drives signals 2 3 (reset_block any carried) ≡ true)
    × (block_drives signals 2 0 (reset_block any three) ≡ false) × (block_drives signals 2 3 (reset_block any three) ≡ true)
but_it_drives_each_bit any = (refl, refl, refl, refl)

-- ---- suspects are numbered from 1
pub there_is_no_suspect_0 : (suspect_has ((0 ∷ []) ∷ []) 0 0 ≡ false) × (suspect_has ((0 ∷ []) ∷ []) 0 1 ≡ true) × (places_of ((0 ∷ []) ∷ []) (0 ∷ []) 0 ≡ false)
there_is_no_suspect_0 = (refl, refl, refl)
