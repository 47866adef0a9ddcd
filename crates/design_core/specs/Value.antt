-- The value of an expression with its width and sign (IEEE 1364-2005, clause 5), as a whole number modulo 2 ^ width.
-- Bits out of a signal's or an array's range read 0.
use Rattle.std.specs.Prelude.{ℕ, ◌+◌, ◌*◌, ◌^◌, Bool, if◌then◌else◌, ℤ, ◌+ℤ◌, List, slice_get, Option}
use Rattle.std.specs.Option.{option_and_then, option_map_or}
use Rattle.loc_base.specs.Bits.{value_of}
use Rattle.design_core.specs.declared.signal.Signal.{Signal}
use Rattle.design_core.specs.declared.expression.Typed.{Typed}
use Rattle.design_core.specs.declared.expression.Node.{Node, Row_of-Typed, end_of-Typed, more_of-Typed}
use Rattle.design_core.specs.declared.expression.Node.TheVariants.{Const, Whole, Slice, Pick', Word', Unary', Binary', Choose', Join', Repeat', Resize'}
use Rattle.design_core.specs.Valuation.{Valuation, number, position_at, word_at, bit_or_zero}
use Rattle.design_core.specs.Operator.{is_true, integer_of, unary, binary, repeated, resized}

-- bit b of a part of a signal by a variable index: the one that has the index plus the offset of b
abbrev pub picked : List Signal → Valuation → ℕ → ℤ → List ℤ → ℕ → Bool
picked signals V signal index offsets b =
    bit_or_zero (V signal) (option_and_then (λ k. position_at signals signal (index +ℤ k)) (slice_get offsets b))

-- bits of a word of an array, where there is such a word
abbrev pub word_value : Valuation → ℕ → ℕ → Option ℕ → ℕ
word_value V from width word = option_map_or (λ signal. number width (λ b. V signal (from + b))) word 0

abbrev mutual
  -- the value of a node of a width
  pub node_value : List Signal → Valuation → ℕ → Node → ℕ
  node_value signals V width (Const word) = value_of word
  node_value signals V width (Whole signal) = number width (V signal)
  node_value signals V width (Slice signal from size) = number size (λ b. V signal (from + b))
  node_value signals V width (Pick' signal _ (more_of-Typed index_width signed index end_of-Typed) offsets) =
      let at = integer_of signed index_width (node_value signals V index_width index) in
      number width (picked signals V signal at offsets)
  node_value signals V width (Word' first count low _ (more_of-Typed index_width signed index end_of-Typed) from size) =
      let address = integer_of signed index_width (node_value signals V index_width index) in
      word_value V from size (word_at first count low address)
  node_value signals V width (Unary' op _ (more_of-Typed arg_width _ arg end_of-Typed)) = unary op arg_width (node_value signals V arg_width arg)
  node_value signals V width (Binary' op _ (more_of-Typed left_width left_signed left end_of-Typed) _ (more_of-Typed right_width right_signed right end_of-Typed)) =
      binary op left_width left_signed right_signed (node_value signals V left_width left) (node_value signals V right_width right)
  node_value signals V width (Choose' _ (more_of-Typed cond_width _ cond end_of-Typed) _ (more_of-Typed true_width _ on_true end_of-Typed) _ (more_of-Typed false_width _ on_false end_of-Typed)) =
      if is_true (node_value signals V cond_width cond)
      then node_value signals V true_width on_true
      else node_value signals V false_width on_false
  node_value signals V width (Join' _ parts) = joined signals V 0 parts
  node_value signals V width (Repeat' times _ (more_of-Typed part_width _ part end_of-Typed)) = repeated times part_width (node_value signals V part_width part)
  node_value signals V width (Resize' _ (more_of-Typed arg_width signed arg end_of-Typed)) = resized width signed arg_width (node_value signals V arg_width arg)

  -- the parts of a concatenation, from the left, behind what stands to their left
  pub joined : {shape : _} → List Signal → Valuation → ℕ → Row_of-Typed shape → ℕ
  joined signals V left end_of-Typed = left
  joined signals V left (more_of-Typed width _ node rest) =
      joined signals V (left * 2 ^ width + node_value signals V width node) rest

-- the value of an expression
abbrev pub value : List Signal → Valuation → Typed → ℕ
value signals V e = node_value signals V e.width e.node

-- the value of an index, by its own sign
abbrev pub index_value : List Signal → Valuation → Typed → ℤ
index_value signals V e = integer_of e.signed e.width (value signals V e)
