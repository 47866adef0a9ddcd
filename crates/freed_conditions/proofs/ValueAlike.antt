-- The value of an expression over some signals is the same with more signals behind them, in a valuation that agrees on the bits of
-- these signals.
use Rattle.std.proofs.Common.{ℕ, ◌+◌, ◌*◌, ◌^◌, ◌≡◌, ◌<◌, ◌≤◌, Bool, true, ◌&&◌, List, ◌++◌, length, refl, ap, ◌∙◌, arith, Option, Some, None}
use Rattle.std.specs.Prelude.{ℤ, ◌+ℤ◌, ◌==◌, nat_lt, nat_le, if◌then◌else◌, slice_get, take, drop}
use Rattle.std.specs.Option.{option_and_then}
use Rattle.std.specs.List.{list_all}
use Rattle.std.proofs.lemmas.Bool.{and_parts, ltb-true, leb-true}
use Rattle.design_core.specs.declared.signal.Signal.{Signal}
use Rattle.design_core.specs.declared.expression.Typed.{Typed}
use Rattle.design_core.specs.declared.expression.Node.{Node, Row_of-Typed, end_of-Typed, more_of-Typed}
use Rattle.design_core.specs.declared.expression.Node.TheVariants.{Const, Whole, Slice, Pick', Word', Unary', Binary', Choose', Join', Repeat', Resize'}
use Rattle.design_core.specs.Valuation.{Valuation, number, width_at, position_at, word_at, bit_or_zero}
use Rattle.design_core.specs.Operator.{is_true, integer_of, unary, binary, repeated, resized}
use Rattle.design_core.specs.Value.{picked, word_value, node_value, joined, value, index_value}
use Rattle.design_core.specs.Drives.{is_among}
use Rattle.design_core.specs.WellFormed.{is_width, is_signal, slice_fits, words_fit, unary_fits, binary_fits, signs_fit, same_widths, joined_width, node_fits, parts_fit, typed_fits}
use Rattle.design_core.proofs.NumberLaws.{number-same}
use Rattle.design_core.proofs.ValueAgrees.{word_at-among, word_value-same}
use Rattle.freed_conditions.specs.Alike.{AgreeBelow}
use Rattle.freed_conditions.proofs.SignalsMore.{signal-below, position_at-more}

pub slice-below : (signals : List Signal) (s from width : ℕ) → slice_fits signals s from width ≡ true → s < length signals
slice-below signals s from width fits =
    let front = and_parts (is_signal signals s && is_width width) (nat_le (from + width) (width_at signals s)) fits in
    signal-below signals s (and_parts (is_signal signals s) (is_width width) front.0).0

pub words-below : (signals : List Signal) (first count from width : ℕ) → words_fit signals first count from width ≡ true → first + count ≤ length signals
words-below signals first count from width fits =
    let same : Bool = list_all (λ s. s.width == width_at signals first) (take count (drop first signals)) in
    let front = and_parts (nat_le 1 count && nat_le (first + count) (length signals) && slice_fits signals first from width) same fits in
    let ends = and_parts (nat_le 1 count && nat_le (first + count) (length signals)) (slice_fits signals first from width) front.0 in
    leb-true (first + count) (length signals) (and_parts (nat_le 1 count) (nat_le (first + count) (length signals)) ends.0).1

-- one of the words of an array
pub among-below : (first count s : ℕ) → is_among first count s ≡ true → s < first + count
among-below first count s among = ltb-true s (first + count) (and_parts (nat_le first s) (nat_lt s (first + count)) among).1

picked-alike : (signals hidden : List Signal) (V W : Valuation) (s : ℕ) (index : ℤ) (offsets : List ℤ) (b : ℕ) → s < length signals
    → AgreeBelow (length signals) V W → picked (signals ++ hidden) V s index offsets b ≡ picked signals W s index offsets b
picked-alike signals hidden V W s index offsets b below agree = at (slice_get offsets b)
  where
    bit_at : (o : Option ℕ) → bit_or_zero (V s) o ≡ bit_or_zero (W s) o
    bit_at None = refl
    bit_at (Some p) = agree.same s p below

    at : (o : Option ℤ) → bit_or_zero (V s) (option_and_then (λ k. position_at (signals ++ hidden) s (index +ℤ k)) o)
        ≡ bit_or_zero (W s) (option_and_then (λ k. position_at signals s (index +ℤ k)) o)
    at None = refl
    at (Some k) = ap (bit_or_zero (V s)) (position_at-more signals hidden s (index +ℤ k) below) ∙ bit_at (position_at signals s (index +ℤ k))

mutual
  pub node_value-alike : (signals hidden : List Signal) (V W : Valuation) (width : ℕ) (signed : Bool) (e : Node)
      → node_fits signals width signed e ≡ true → AgreeBelow (length signals) V W
      → node_value (signals ++ hidden) V width e ≡ node_value signals W width e
  node_value-alike signals hidden V W width signed (Const word) fits agree = refl
  node_value-alike signals hidden V W width signed (Whole s) fits agree =
      let front = and_parts (is_width width && is_signal signals s) (width_at signals s == width) fits in
      let below : s < length signals = signal-below signals s (and_parts (is_width width) (is_signal signals s) front.0).1 in
      number-same width (V s) (W s) (λ b _. agree.same s b below)
  node_value-alike signals hidden V W width signed (Slice s from size) fits agree =
      let below : s < length signals = slice-below signals s from size (and_parts (slice_fits signals s from size) (size == width) fits).0 in
      number-same size (λ b. V s (from + b)) (λ b. W s (from + b)) (λ b _. agree.same s (from + b) below)
  node_value-alike signals hidden V W width signed (Pick' s _ (more_of-Typed index_width index_signed index end_of-Typed) offsets) fits agree =
      let fit = and_parts (is_width width && is_signal signals s && length offsets == width) (node_fits signals index_width index_signed index) fits in
      let front = and_parts (is_width width && is_signal signals s) (length offsets == width) fit.0 in
      let below : s < length signals = signal-below signals s (and_parts (is_width width) (is_signal signals s) front.0).1 in
      let at : ℕ → ℤ = λ n. integer_of index_signed index_width n in
      ap (λ n. number width (picked (signals ++ hidden) V s (at n) offsets)) (node_value-alike signals hidden V W index_width index_signed index fit.1 agree)
      ∙ number-same width (picked (signals ++ hidden) V s (at (node_value signals W index_width index)) offsets)
      (picked signals W s (at (node_value signals W index_width index)) offsets)
      (λ b _. picked-alike signals hidden V W s (at (node_value signals W index_width index)) offsets b below agree)
  node_value-alike signals hidden V W width signed (Word' first count low _ (more_of-Typed index_width index_signed index end_of-Typed) from size) fits agree =
      let fit = and_parts (words_fit signals first count from size && size == width) (node_fits signals index_width index_signed index) fits in
      let within : first + count ≤ length signals = words-below signals first count from size (and_parts (words_fit signals first count from size) (size == width) fit.0).0 in
      let word : ℕ → Option ℕ = λ n. word_at first count low (integer_of index_signed index_width n) in
      let bits : (w b : ℕ) → word (node_value signals W index_width index) ≡ Some w → b < size → V w (from + b) ≡ W w (from + b) =
      λ w b e below. let among : w < first + count = among-below first count w (word_at-among first count low (integer_of index_signed index_width (node_value signals W index_width index)) w e) in
      agree.same w (from + b) (omega arith) in
      ap (λ n. word_value V from size (word n)) (node_value-alike signals hidden V W index_width index_signed index fit.1 agree)
      ∙ word_value-same V W from size (word (node_value signals W index_width index)) bits
  node_value-alike signals hidden V W width signed (Unary' op _ (more_of-Typed arg_width arg_signed arg end_of-Typed)) fits agree =
      let fit = and_parts (is_width width && unary_fits op width arg_width) (node_fits signals arg_width arg_signed arg) fits in
      ap (unary op arg_width) (node_value-alike signals hidden V W arg_width arg_signed arg fit.1 agree)
  node_value-alike signals hidden V W width signed (Binary' op _ (more_of-Typed left_width left_signed left end_of-Typed) _ (more_of-Typed right_width right_signed right end_of-Typed)) fits agree =
      let fit = and_parts (is_width width && binary_fits op width left_width right_width && signs_fit op signed left_signed right_signed && node_fits signals left_width left_signed left)
      (node_fits signals right_width right_signed right) fits in
      let front = and_parts (is_width width && binary_fits op width left_width right_width && signs_fit op signed left_signed right_signed) (node_fits signals left_width left_signed left) fit.0 in
      ap (λ n. binary op left_width left_signed right_signed n (node_value (signals ++ hidden) V right_width right)) (node_value-alike signals hidden V W left_width left_signed left front.1 agree)
      ∙ ap (binary op left_width left_signed right_signed (node_value signals W left_width left)) (node_value-alike signals hidden V W right_width right_signed right fit.1 agree)
  node_value-alike signals hidden V W width signed (Choose' _ (more_of-Typed cond_width cond_signed cond end_of-Typed) _ (more_of-Typed true_width true_signed on_true end_of-Typed) _ (more_of-Typed false_width false_signed on_false end_of-Typed)) fits agree =
      let fit = and_parts (same_widths width true_width false_width && node_fits signals cond_width cond_signed cond && node_fits signals true_width true_signed on_true)
      (node_fits signals false_width false_signed on_false) fits in
      let front = and_parts (same_widths width true_width false_width && node_fits signals cond_width cond_signed cond) (node_fits signals true_width true_signed on_true) fit.0 in
      let test = and_parts (same_widths width true_width false_width) (node_fits signals cond_width cond_signed cond) front.0 in
      ap (λ n. if is_true n then node_value (signals ++ hidden) V true_width on_true else node_value (signals ++ hidden) V false_width on_false)
      (node_value-alike signals hidden V W cond_width cond_signed cond test.1 agree)
      ∙ (ap (λ n. if is_true (node_value signals W cond_width cond) then n else node_value (signals ++ hidden) V false_width on_false)
      (node_value-alike signals hidden V W true_width true_signed on_true front.1 agree)
      ∙ ap (λ n. if is_true (node_value signals W cond_width cond) then node_value signals W true_width on_true else n)
      (node_value-alike signals hidden V W false_width false_signed on_false fit.1 agree))
  node_value-alike signals hidden V W width signed (Join' _ parts) fits agree =
      joined-alike signals hidden V W 0 parts (and_parts (is_width width && joined_width parts == width) (parts_fit signals parts) fits).1 agree
  node_value-alike signals hidden V W width signed (Repeat' times _ (more_of-Typed part_width part_signed part end_of-Typed)) fits agree =
      let fit = and_parts (is_width width && times * part_width == width) (node_fits signals part_width part_signed part) fits in
      ap (repeated times part_width) (node_value-alike signals hidden V W part_width part_signed part fit.1 agree)
  node_value-alike signals hidden V W width signed (Resize' _ (more_of-Typed arg_width arg_signed arg end_of-Typed)) fits agree =
      let fit = and_parts (is_width width) (node_fits signals arg_width arg_signed arg) fits in
      ap (resized width arg_signed arg_width) (node_value-alike signals hidden V W arg_width arg_signed arg fit.1 agree)

  pub joined-alike : {shape : _} (signals hidden : List Signal) (V W : Valuation) (left : ℕ) (parts : Row_of-Typed shape)
      → parts_fit signals parts ≡ true → AgreeBelow (length signals) V W
      → joined (signals ++ hidden) V left parts ≡ joined signals W left parts
  joined-alike signals hidden V W left end_of-Typed fits agree = refl
  joined-alike signals hidden V W left (more_of-Typed width signed node rest) fits agree =
      let fit = and_parts (node_fits signals width signed node) (parts_fit signals rest) fits in
      ap (λ n. joined (signals ++ hidden) V (left * 2 ^ width + n) rest) (node_value-alike signals hidden V W width signed node fit.0 agree)
      ∙ joined-alike signals hidden V W (left * 2 ^ width + node_value signals W width node) rest fit.1 agree

pub value-alike : (signals hidden : List Signal) (V W : Valuation) (e : Typed) → typed_fits signals e ≡ true → AgreeBelow (length signals) V W
    → value (signals ++ hidden) V e ≡ value signals W e
value-alike signals hidden V W e fits agree = node_value-alike signals hidden V W e.width e.signed e.node fits agree

pub index_value-alike : (signals hidden : List Signal) (V W : Valuation) (e : Typed) → typed_fits signals e ≡ true → AgreeBelow (length signals) V W
    → index_value (signals ++ hidden) V e ≡ index_value signals W e
index_value-alike signals hidden V W e fits agree = ap (integer_of e.signed e.width) (value-alike signals hidden V W e fits agree)

pub value-more : (signals hidden : List Signal) (V : Valuation) (e : Typed) → typed_fits signals e ≡ true
    → value (signals ++ hidden) V e ≡ value signals V e
value-more signals hidden V e fits = value-alike signals hidden V V e fits (record { same = λ s b below. refl })
