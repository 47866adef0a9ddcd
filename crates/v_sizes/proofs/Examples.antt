-- Worked examples of the definitions: what an expression is by itself and in a context, and why it is refused.
use Rattle.std.proofs.Common.{◌≡◌, ℕ, ◌+◌, List, refl}
use Rattle.std.specs.Prelude.{true, false, pos, negsuc, Option, Some, None, codes, nat_eq, if◌then◌else◌}
use Rattle.std.specs.Cmp.Lexicographic.{pointwise}
use Rattle.v_syntax.specs.Bytes.{is_decimal}
use Rattle.v_syntax.specs.Numbers.{is_sign, is_wild, is_hexadecimal}
use Rattle.v_syntax.specs.Literals.{digit_value, base_of}
use Rattle.v_syntax.specs.declared.site.Site.{Site}
use Rattle.v_syntax.specs.declared.operator.Unary.TheVariants as unary
use Rattle.v_syntax.specs.declared.operator.Binary.TheVariants as binary
use Rattle.v_syntax.specs.declared.operator.SystemFunction.TheVariants as function
use Rattle.v_syntax.specs.declared.expression.PartKind.TheVariants as kind
use Rattle.v_syntax.specs.Tree.{Tree, Trees, no_tree, tree, Selections, no_select, select}
use Rattle.v_syntax.specs.Tree as written
use Rattle.design_core.specs.declared.expression.Node.TheVariants as node
use Rattle.design_core.specs.declared.expression.BinaryOp.TheVariants as binary_op
use Rattle.design_core.specs.Valuation.{number}
use Rattle.v_sizes.specs.declared.error.WidthErr.{WidthErr}
use Rattle.v_sizes.specs.declared.error.WidthErr.TheVariants as fault
use Rattle.v_sizes.specs.declared.meaning.Meaning.TheVariants as meaning
use Rattle.v_sizes.specs.Look.{Look}
use Rattle.v_sizes.specs.Operations.{logarithm_from}
use Rattle.v_sizes.specs.Sizing.{sizing, known}
use Rattle.v_sizes.specs.Refusals.{refusal}
use Rattle.v_sizes.specs.Sized.{typed, sized, constant}

abbrev pub at : ℕ → Site
at token = record { span = record { from = token; to = token + 1 }; token = token; line = 1 }

abbrev pub decimal : List ℕ → Tree
decimal text = written.number (at 0) text

abbrev pub named : List ℕ → Tree
named text = written.name (at 0) text no_select

-- a and b are unsigned nets of 8 bits, s a signed one of 4, n one with the range [0:7], m an array of 3 words of 4 bits
abbrev pub scope : Look
scope name =
    if pointwise nat_eq name (codes "a") then Some (meaning.Signal 0 8 false (pos 7) (pos 0))
    else if pointwise nat_eq name (codes "b") then Some (meaning.Signal 1 8 false (pos 7) (pos 0))
    else if pointwise nat_eq name (codes "s") then Some (meaning.Signal 2 4 true (pos 3) (pos 0))
    else if pointwise nat_eq name (codes "n") then Some (meaning.Signal 3 8 false (pos 0) (pos 7))
    else if pointwise nat_eq name (codes "m") then Some (meaning.Array 4 3 (pos 0) 4 false (pos 3) (pos 0))
    else None

abbrev pub total : Tree
total = written.binary (at 1) binary.Add (named (codes "a")) (named (codes "b"))

abbrev pub shifted : Tree → Tree
shifted e = written.binary (at 2) binary.ShiftRight (written.parens (at 0) e) (decimal (codes "1"))

abbrev pub divided : Tree → Tree → Tree
divided one other = written.binary (at 3) binary.Divide one other

abbrev pub minus : Tree → Tree
minus e = written.unary (at 0) unary.Minus e

-- ---- widths (5.4.1): the carry of a sum is lost where nothing wider stands beside it
pub a_sum_has_the_width_of_its_operands : (sizing scope (shifted total)).width ≡ 8
a_sum_has_the_width_of_its_operands = refl

pub a_plain_number_widens_a_sum : (sizing scope (shifted (written.binary (at 2) binary.Add total (decimal (codes "0"))))).width ≡ 32
a_plain_number_widens_a_sum = refl

pub the_right_operand_of_a_shift_widens_nothing : (sizing scope (shifted (named (codes "s")))).width ≡ 4
the_right_operand_of_a_shift_widens_nothing = refl

-- ---- signs (5.5.1)
pub a_shift_has_the_sign_of_its_left_operand : (sizing scope (written.binary (at 2) binary.SignedShiftRight (named (codes "s")) (named (codes "a")))).signed ≡ true
a_shift_has_the_sign_of_its_left_operand = refl

pub one_unsigned_operand_makes_the_whole_unsigned : (sizing scope (written.binary (at 2) binary.Add (named (codes "s")) (decimal (codes "4'd0")))).signed ≡ false
unfolding digit_value base_of is_sign is_hexadecimal is_wild is_decimal logarithm_from
one_unsigned_operand_makes_the_whole_unsigned = refl

pub a_select_is_unsigned : (sizing scope (written.name (at 0) (codes "s") (select (written.bit (at 1) (decimal (codes "3"))) no_select))).signed ≡ false
a_select_is_unsigned = refl

-- ---- constants (5.1.5)
pub a_quotient_is_cut_towards_0 : known (sizing scope (divided (minus (decimal (codes "7"))) (decimal (codes "2")))) ≡ negsuc 2
unfolding digit_value base_of is_sign is_hexadecimal is_wild is_decimal logarithm_from
a_quotient_is_cut_towards_0 = refl

pub a_remainder_has_the_sign_of_its_left_operand : known (sizing scope (written.binary (at 3) binary.Modulus (minus (decimal (codes "7"))) (decimal (codes "2")))) ≡ negsuc 0
unfolding digit_value base_of is_sign is_hexadecimal is_wild is_decimal logarithm_from
a_remainder_has_the_sign_of_its_left_operand = refl

pub a_logarithm_is_rounded_up : known (sizing scope (written.system (at 0) function.Clog2 (decimal (codes "9")))) ≡ pos 4
unfolding digit_value base_of is_sign is_hexadecimal is_wild is_decimal logarithm_from
a_logarithm_is_rounded_up = refl

pub the_logarithm_of_0_is_0 : known (sizing scope (written.system (at 0) function.Clog2 (decimal (codes "0")))) ≡ pos 0
unfolding digit_value base_of is_sign is_hexadecimal is_wild is_decimal logarithm_from
the_logarithm_of_0_is_0 = refl

-- ---- refusals
abbrev pub refused : Tree → Option WidthErr
refused e = refusal scope false e (sizing scope e).width (sizing scope e).signed

pub a_division_by_0_is_refused : refused (divided (decimal (codes "1")) (decimal (codes "0"))) ≡ Some (fault.ZeroDivisor (record { from = 3; to = 4 }))
unfolding digit_value base_of is_sign is_hexadecimal is_wild is_decimal logarithm_from
a_division_by_0_is_refused = refl

pub a_negative_exponent_is_none : refused (written.binary (at 5) binary.Power (decimal (codes "2")) (minus (decimal (codes "1")))) ≡ Some (fault.NotConstant (record { from = 5; to = 6 }))
unfolding digit_value base_of is_sign is_hexadecimal is_wild is_decimal logarithm_from
a_negative_exponent_is_none = refl

pub the_leftmost_part_counts : refused (written.binary (at 9) binary.Add (named (codes "x")) (divided (decimal (codes "1")) (decimal (codes "0")))) ≡ Some (fault.UnknownName (record { from = 0; to = 1 }))
the_leftmost_part_counts = refl

pub two_hundred_bits_are_too_many : refused (written.repeat (at 7) (decimal (codes "100")) (tree (decimal (codes "2'b11")) no_tree)) ≡ Some (fault.Range (record { from = 7; to = 8 }))
unfolding digit_value base_of is_sign is_hexadecimal is_wild is_decimal logarithm_from
two_hundred_bits_are_too_many = refl

pub an_array_stands_with_an_index_alone : refused (named (codes "m")) ≡ Some (fault.UnknownName (record { from = 0; to = 1 }))
an_array_stands_with_an_index_alone = refl

pub a_part_runs_as_its_range_does :
    refused (written.name (at 4) (codes "n") (select (written.part (at 5) kind.Range (decimal (codes "3")) (decimal (codes "0"))) no_select)) ≡ Some (fault.Range (record { from = 4; to = 5 }))
unfolding digit_value base_of is_sign is_hexadecimal is_wild is_decimal logarithm_from
a_part_runs_as_its_range_does = refl

-- ---- sized expressions
pub a_part_of_an_ascending_range_counts_from_its_right_end :
    typed scope (written.name (at 4) (codes "n") (select (written.part (at 5) kind.Up (decimal (codes "2")) (decimal (codes "3"))) no_select)) 3 false ≡ sized 3 false (node.Slice 3 3 3)
unfolding digit_value base_of is_sign is_hexadecimal is_wild is_decimal logarithm_from
a_part_of_an_ascending_range_counts_from_its_right_end = refl

pub an_operand_is_extended_by_the_sign_of_its_context :
    typed scope (written.binary (at 2) binary.Add (named (codes "s")) (named (codes "a"))) 8 false
    ≡ sized 8 false (node.Binary binary_op.Add (sized 8 false (node.Resize (sized 4 false (node.Whole 2)))) (sized 8 false (node.Whole 0)))
an_operand_is_extended_by_the_sign_of_its_context = refl

pub a_word_at_a_known_address_is_a_signal :
    typed scope (written.name (at 4) (codes "m") (select (written.bit (at 5) (decimal (codes "2"))) no_select)) 4 false ≡ sized 4 false (node.Slice 6 0 4)
unfolding digit_value base_of is_sign is_hexadecimal is_wild is_decimal logarithm_from
a_word_at_a_known_address_is_a_signal = refl

pub a_word_beyond_an_array_is_0 :
    typed scope (written.name (at 4) (codes "m") (select (written.bit (at 5) (decimal (codes "3"))) no_select)) 4 false ≡ constant 4 false 0
unfolding digit_value base_of is_sign is_hexadecimal is_wild is_decimal logarithm_from number
a_word_beyond_an_array_is_0 = refl
