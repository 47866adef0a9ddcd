-- The value of an expression is a number of its width.
use Rattle.std.proofs.Common.{ℕ, zero, suc, ◌+◌, ◌-◌, ◌*◌, ◌/◌, ◌%◌, ◌^◌, ◌≡◌, ◌<◌, ◌≤◌, Bool, true, false, not, ◌&&◌, ◌||◌, refl, ap, sym, subst, arith, add-zero, Option, Some, None}
use Rattle.std.specs.Prelude.{◌==◌, nat_le, if◌then◌else◌, bit_and, bit_xor, count_ones, List}
use Rattle.std.proofs.lemmas.Bool.{and_parts, leb-true, eqb-true, cond_both}
use Rattle.std.proofs.lemmas.Nat.{pow_pos, and_le_l}
use Rattle.std.proofs.Math.Nat.{mod-lt, div-le_self}
use Rattle.loc_base.specs.Bits.{width_of, value_of, value_of-range}
use Rattle.loc_base.specs.Word.{is_negative, extended, shifted_signed}
use Rattle.loc_base.proofs.Modulo.{or_below, xor_below, wider, joined_below}
use Rattle.design_core.specs.declared.signal.Signal.{Signal}
use Rattle.design_core.specs.declared.expression.UnaryOp.{UnaryOp}
use Rattle.design_core.specs.declared.expression.UnaryOp.TheVariants as unary_op
use Rattle.design_core.specs.declared.expression.BinaryOp.{BinaryOp}
use Rattle.design_core.specs.declared.expression.BinaryOp.TheVariants as binary_op
use Rattle.design_core.specs.declared.expression.Typed.{Typed}
use Rattle.design_core.specs.declared.expression.Node.{Node, Row_of-Typed, end_of-Typed, more_of-Typed}
use Rattle.design_core.specs.declared.expression.Node.TheVariants.{Const, Whole, Slice, Pick', Word', Unary', Binary', Choose', Join', Repeat', Resize'}
use Rattle.design_core.specs.Valuation.{Valuation, number, word_at}
use Rattle.design_core.specs.Operator.{is_true, one_if, all_ones, integer_of, unary, is_less, binary, repeated, resized}
use Rattle.design_core.specs.Value.{picked, word_value, node_value, joined, value}
use Rattle.design_core.specs.WellFormed.{is_width, slice_fits, words_fit, unary_fits, same_widths, binary_fits, joined_width, node_fits, parts_fit, typed_fits, signs_fit}
use Rattle.design_core.proofs.NumberLaws.{number-below}

-- a truth value fits each width
one_if-in_range : (holds : Bool) (width : ℕ) → 1 ≤ width → one_if holds < 2 ^ width
one_if-in_range true width some = omega (arith, wider 1 width some)
one_if-in_range false width some = omega (arith, wider 1 width some)

-- so does a number up to 1
small-in_range : (n width : ℕ) → n ≤ 1 → 1 ≤ width → n < 2 ^ width
small-in_range n width small some = omega (arith, wider 1 width some)

ones-in_range : (width a : ℕ) → all_ones width - a < 2 ^ width
ones-in_range width a = omega (arith, pow_pos width)

unary-in_range : (op : UnaryOp) (width arg_width a : ℕ) → unary_fits op width arg_width ≡ true → 1 ≤ width → a < 2 ^ arg_width
    → unary op arg_width a < 2 ^ width
unary-in_range unary_op.Plus width arg_width a fits some below = subst (λ w. a < 2 ^ w) (sym (eqb-true width arg_width fits)) below
unary-in_range unary_op.Minus width arg_width a fits some below =
    subst (λ w. (2 ^ arg_width - a) % 2 ^ arg_width < 2 ^ w) (sym (eqb-true width arg_width fits)) (mod-lt (2 ^ arg_width - a) (pow_pos arg_width))
unary-in_range unary_op.Not width arg_width a fits some below =
    subst (λ w. all_ones arg_width - a < 2 ^ w) (sym (eqb-true width arg_width fits)) (ones-in_range arg_width a)
unary-in_range unary_op.LogicalNot width arg_width a fits some below = one_if-in_range (not (is_true a)) width some
unary-in_range unary_op.ReduceAnd width arg_width a fits some below = one_if-in_range (a == all_ones arg_width) width some
unary-in_range unary_op.ReduceNand width arg_width a fits some below = one_if-in_range (not (a == all_ones arg_width)) width some
unary-in_range unary_op.ReduceOr width arg_width a fits some below = one_if-in_range (is_true a) width some
unary-in_range unary_op.ReduceNor width arg_width a fits some below = one_if-in_range (not (is_true a)) width some
unary-in_range unary_op.ReduceXor width arg_width a fits some below = small-in_range (count_ones a % 2) width (omega arith) some
unary-in_range unary_op.ReduceXnor width arg_width a fits some below = small-in_range (1 - count_ones a % 2) width (omega arith) some

shifted_signed-in_range : (width a by : ℕ) → a < 2 ^ width → shifted_signed width a by < 2 ^ width
shifted_signed-in_range width a by below =
    cond_both (is_negative width a) ((2 ^ width - 1) - ((2 ^ width - 1) - a) / 2 ^ by) (a / 2 ^ by) (λ n. n < 2 ^ width)
    (λ _. omega (arith, pow_pos width)) (λ _. omega (arith, div-le_self a (2 ^ by)))

-- what has the width of one operand
same_width : (width w n : ℕ) → (width == w) ≡ true → n < 2 ^ w → n < 2 ^ width
same_width width w n same below = subst (λ k. n < 2 ^ k) (sym (eqb-true width w same)) below

binary-in_range : (op : BinaryOp) (width v w : ℕ) (r s : Bool) (a b : ℕ) → binary_fits op width v w ≡ true → 1 ≤ width → a < 2 ^ v → b < 2 ^ w
    → binary op v r s a b < 2 ^ width
binary-in_range binary_op.Add width v w r s a b fits some a_below b_below =
    same_width width v ((a + b) % 2 ^ v) (and_parts (width == v) (width == w) fits).0 (mod-lt (a + b) (pow_pos v))
binary-in_range binary_op.Subtract width v w r s a b fits some a_below b_below =
    same_width width v ((a + (2 ^ v - b)) % 2 ^ v) (and_parts (width == v) (width == w) fits).0 (mod-lt (a + (2 ^ v - b)) (pow_pos v))
binary-in_range binary_op.Multiply width v w r s a b fits some a_below b_below =
    same_width width v (a * b % 2 ^ v) (and_parts (width == v) (width == w) fits).0 (mod-lt (a * b) (pow_pos v))
binary-in_range binary_op.And width v w r s a b fits some a_below b_below =
    same_width width v (bit_and a b) (and_parts (width == v) (width == w) fits).0 (omega (arith, a_below, and_le_l a b))
binary-in_range binary_op.Or width v w r s a b fits some a_below b_below =
    let e = and_parts (width == v) (width == w) fits in
    or_below width width a b refl (same_width width v a e.0 a_below) (same_width width w b e.1 b_below)
binary-in_range binary_op.Xor width v w r s a b fits some a_below b_below =
    let e = and_parts (width == v) (width == w) fits in
    xor_below width width a b refl (same_width width v a e.0 a_below) (same_width width w b e.1 b_below)
binary-in_range binary_op.Xnor width v w r s a b fits some a_below b_below =
    same_width width v (all_ones v - bit_xor a b) (and_parts (width == v) (width == w) fits).0 (ones-in_range v (bit_xor a b))
binary-in_range binary_op.ShiftLeft width v w r s a b fits some a_below b_below = same_width width v (a * 2 ^ b % 2 ^ v) fits (mod-lt (a * 2 ^ b) (pow_pos v))
binary-in_range binary_op.ShiftRight width v w r s a b fits some a_below b_below =
    same_width width v (a / 2 ^ b) fits (omega (arith, a_below, div-le_self a (2 ^ b)))
binary-in_range binary_op.ArithmeticShiftLeft width v w r s a b fits some a_below b_below =
    same_width width v (a * 2 ^ b % 2 ^ v) fits (mod-lt (a * 2 ^ b) (pow_pos v))
binary-in_range binary_op.ArithmeticShiftRight width v w r s a b fits some a_below b_below =
    same_width width v (if r then shifted_signed v a b else a / 2 ^ b) fits
    (cond_both r (shifted_signed v a b) (a / 2 ^ b) (λ n. n < 2 ^ v) (λ _. shifted_signed-in_range v a b a_below) (λ _. omega (arith, a_below, div-le_self a (2 ^ b))))
binary-in_range binary_op.Less width v w r s a b fits some a_below b_below = one_if-in_range (is_less (r && s) v a b) width some
binary-in_range binary_op.LessEqual width v w r s a b fits some a_below b_below = one_if-in_range (not (is_less (r && s) v b a)) width some
binary-in_range binary_op.Greater width v w r s a b fits some a_below b_below = one_if-in_range (is_less (r && s) v b a) width some
binary-in_range binary_op.GreaterEqual width v w r s a b fits some a_below b_below = one_if-in_range (not (is_less (r && s) v a b)) width some
binary-in_range binary_op.Equal width v w r s a b fits some a_below b_below = one_if-in_range (a == b) width some
binary-in_range binary_op.NotEqual width v w r s a b fits some a_below b_below = one_if-in_range (not (a == b)) width some
binary-in_range binary_op.LogicalAnd width v w r s a b fits some a_below b_below = one_if-in_range (is_true a && is_true b) width some
binary-in_range binary_op.LogicalOr width v w r s a b fits some a_below b_below = one_if-in_range (is_true a || is_true b) width some

repeated-in_range : (times width a : ℕ) → a < 2 ^ width → repeated times width a < 2 ^ (times * width)
unfolding repeated
repeated-in_range zero width a below = pow_pos (0 * width)
repeated-in_range (suc times) width a below =
    let wide : times * width + width ≡ suc times * width = omega arith in
    subst (λ w. repeated times width a * 2 ^ width + a < 2 ^ w) wide (joined_below (repeated times width a) a (times * width) width (repeated-in_range times width a below) below)

resized-in_range : (to : ℕ) (signed : Bool) (from a : ℕ) → a < 2 ^ from → resized to signed from a < 2 ^ to
resized-in_range to signed from a below =
    cond_both (nat_le from to) (extended signed from to a) (a % 2 ^ to) (λ n. n < 2 ^ to)
    (λ up. let low : 2 ^ from ≤ 2 ^ to = wider from to (leb-true from to up) in
    cond_both (signed && is_negative from a) (a + (2 ^ to - 2 ^ from)) a (λ n. n < 2 ^ to) (λ _. omega arith) (λ _. omega arith))
    (λ _. mod-lt a (pow_pos to))

word_value-in_range : (V : Valuation) (from width : ℕ) (word : Option ℕ) → word_value V from width word < 2 ^ width
word_value-in_range V from width None = pow_pos width
word_value-in_range V from width (Some s) = number-below width (λ b. V s (from + b))

-- at least one bit
some_bits : (width : ℕ) → is_width width ≡ true → 1 ≤ width
some_bits width fits = leb-true 1 width (and_parts (nat_le 1 width) (nat_le width 128) fits).0

mutual
  pub node_value-in_range : (signals : List Signal) (V : Valuation) (width : ℕ) (signed : Bool) (e : Node) → node_fits signals width signed e ≡ true
      → node_value signals V width e < 2 ^ width
  node_value-in_range signals V width sign (Const word) fits =
      subst (λ w. value_of word < 2 ^ w) (eqb-true (width_of word) width (and_parts (is_width width) (width_of word == width) fits).1) (value_of-range word)
  node_value-in_range signals V width sign (Whole signal) fits = number-below width (V signal)
  node_value-in_range signals V width sign (Slice signal from size) fits =
      subst (λ w. number size (λ b. V signal (from + b)) < 2 ^ w) (eqb-true size width (and_parts (slice_fits signals signal from size) (size == width) fits).1)
      (number-below size (λ b. V signal (from + b)))
  node_value-in_range signals V width sign (Pick' signal _ (more_of-Typed index_width signed index end_of-Typed) offsets) fits =
      number-below width (picked signals V signal (integer_of signed index_width (node_value signals V index_width index)) offsets)
  node_value-in_range signals V width sign (Word' first count low _ (more_of-Typed index_width signed index end_of-Typed) from size) fits =
      let word : Option ℕ = word_at first count low (integer_of signed index_width (node_value signals V index_width index)) in
      let same = and_parts (words_fit signals first count from size) (size == width)
      (and_parts (words_fit signals first count from size && (size == width)) (node_fits signals index_width signed index) fits).0 in
      subst (λ w. word_value V from size word < 2 ^ w) (eqb-true size width same.1) (word_value-in_range V from size word)
  node_value-in_range signals V width sign (Unary' op _ (more_of-Typed arg_width signed arg end_of-Typed)) fits =
      let fit = and_parts (is_width width && unary_fits op width arg_width) (node_fits signals arg_width signed arg) fits in
      let own = and_parts (is_width width) (unary_fits op width arg_width) fit.0 in
      unary-in_range op width arg_width (node_value signals V arg_width arg) own.1 (some_bits width own.0) (node_value-in_range signals V arg_width signed arg fit.1)
  node_value-in_range signals V width sign (Binary' op _ (more_of-Typed left_width left_signed left end_of-Typed) _ (more_of-Typed right_width right_signed right end_of-Typed)) fits =
      let signs : Bool = signs_fit op sign left_signed right_signed in
      let left_fits : Bool = node_fits signals left_width left_signed left in
      let fit = and_parts (is_width width && binary_fits op width left_width right_width && signs && left_fits) (node_fits signals right_width right_signed right) fits in
      let more = and_parts (is_width width && binary_fits op width left_width right_width && signs) left_fits fit.0 in
      let widths = and_parts (is_width width && binary_fits op width left_width right_width) signs more.0 in
      let own = and_parts (is_width width) (binary_fits op width left_width right_width) widths.0 in
      binary-in_range op width left_width right_width left_signed right_signed (node_value signals V left_width left) (node_value signals V right_width right)
      own.1 (some_bits width own.0) (node_value-in_range signals V left_width left_signed left more.1) (node_value-in_range signals V right_width right_signed right fit.1)
  node_value-in_range signals V width sign (Choose' _ (more_of-Typed cond_width cond_signed cond end_of-Typed) _ (more_of-Typed true_width true_signed on_true end_of-Typed) _ (more_of-Typed false_width false_signed on_false end_of-Typed)) fits =
      let fit = and_parts (same_widths width true_width false_width && node_fits signals cond_width cond_signed cond && node_fits signals true_width true_signed on_true)
      (node_fits signals false_width false_signed on_false) fits in
      let more = and_parts (same_widths width true_width false_width && node_fits signals cond_width cond_signed cond) (node_fits signals true_width true_signed on_true) fit.0 in
      let widths = and_parts (width == true_width) (width == false_width) (and_parts (same_widths width true_width false_width) (node_fits signals cond_width cond_signed cond) more.0).0 in
      let yes : ℕ = node_value signals V true_width on_true in
      let no : ℕ = node_value signals V false_width on_false in
      cond_both (is_true (node_value signals V cond_width cond)) yes no (λ n. n < 2 ^ width)
      (λ _. same_width width true_width yes widths.0 (node_value-in_range signals V true_width true_signed on_true more.1))
      (λ _. same_width width false_width no widths.1 (node_value-in_range signals V false_width false_signed on_false fit.1))
  node_value-in_range signals V width sign (Join' _ parts) fits =
      let fit = and_parts (is_width width && (joined_width parts == width)) (parts_fit signals parts) fits in
      let whole : 0 + joined_width parts ≡ width = omega (arith, eqb-true (joined_width parts) width (and_parts (is_width width) (joined_width parts == width) fit.0).1) in
      subst (λ w. joined signals V 0 parts < 2 ^ w) whole (joined-in_range signals V 0 0 parts fit.1 (pow_pos 0))
  node_value-in_range signals V width sign (Repeat' times _ (more_of-Typed part_width signed part end_of-Typed)) fits =
      let fit = and_parts (is_width width && (times * part_width == width)) (node_fits signals part_width signed part) fits in
      subst (λ w. repeated times part_width (node_value signals V part_width part) < 2 ^ w)
      (eqb-true (times * part_width) width (and_parts (is_width width) (times * part_width == width) fit.0).1)
      (repeated-in_range times part_width (node_value signals V part_width part) (node_value-in_range signals V part_width signed part fit.1))
  node_value-in_range signals V width sign (Resize' _ (more_of-Typed arg_width signed arg end_of-Typed)) fits =
      resized-in_range width signed arg_width (node_value signals V arg_width arg)
      (node_value-in_range signals V arg_width signed arg (and_parts (is_width width) (node_fits signals arg_width signed arg) fits).1)

  pub joined-in_range : {shape : _} (signals : List Signal) (V : Valuation) (width left : ℕ) (parts : Row_of-Typed shape) → parts_fit signals parts ≡ true
      → left < 2 ^ width → joined signals V left parts < 2 ^ (width + joined_width parts)
  joined-in_range signals V width left end_of-Typed fits below = omega (arith, below, ap (λ w. 2 ^ w) (add-zero width))
  joined-in_range signals V width left (more_of-Typed part_width signed node rest) fits below =
      let fit = and_parts (node_fits signals part_width signed node) (parts_fit signals rest) fits in
      let next : ℕ = left * 2 ^ part_width + node_value signals V part_width node in
      let low : next < 2 ^ (width + part_width) =
      joined_below left (node_value signals V part_width node) width part_width below (node_value-in_range signals V part_width signed node fit.0) in
      let wide : width + part_width + joined_width rest ≡ width + (part_width + joined_width rest) = omega arith in
      subst (λ w. joined signals V next rest < 2 ^ w) wide (joined-in_range signals V (width + part_width) next rest fit.1 low)

-- the value of an expression that has the width that it says is a number of that width
pub value-in_range : (signals : List Signal) (V : Valuation) (e : Typed) → typed_fits signals e ≡ true → value signals V e < 2 ^ e.width
value-in_range signals V e fits = node_value-in_range signals V e.width e.signed e.node fits
