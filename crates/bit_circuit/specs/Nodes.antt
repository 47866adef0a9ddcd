-- The literals of a node of a net, and the nodes of the circuit that are made for them: one definition by cases on what
-- the node computes. Operands stand in the order of their numbers; bits are made from bit 0 up.
use Rattle.std.specs.Prelude.{ℕ, Bool, true, false, ◌&&◌, List, [], ◌∷◌, ◌++◌, map, take, drop, get_or}
use Rattle.gate_base.specs.declared.literal.Literal.{Literal}
use Rattle.gate_base.specs.declared.literal.Literal.TheVariants.{Known}
use Rattle.gate_base.specs.declared.node.Node.{Node}
use Rattle.gate_base.specs.Literals.{opposite}
use Rattle.gate_base.specs.Nodes.{Made, Word, word, and_made, or_made, and_all_made, or_all_made, xor_all_made}
use Rattle.design_core.specs.declared.expression.UnaryOp.{UnaryOp}
use Rattle.design_core.specs.declared.expression.UnaryOp.TheVariants as unary_op
use Rattle.design_core.specs.declared.expression.BinaryOp.{BinaryOp}
use Rattle.design_core.specs.declared.expression.BinaryOp.TheVariants as binary_op
use Rattle.bit_words.specs.declared.bitwise.Bitwise.TheVariants as bitwise
use Rattle.bit_words.specs.declared.shift.Direction.TheVariants.{Left, Right}
use Rattle.bit_words.specs.Add.{sum_made, difference_made, minus_made}
use Rattle.bit_words.specs.Bitwise.{bitwise_made}
use Rattle.bit_words.specs.Choose.{choice_made}
use Rattle.bit_words.specs.Equal.{equal_made}
use Rattle.bit_words.specs.Index.{match_made}
use Rattle.bit_words.specs.Less.{less_made}
use Rattle.bit_words.specs.Multiply.{product_made}
use Rattle.bit_words.specs.Shift.{shift_made}
use Rattle.word_net.specs.declared.node.Operand.{Operand}
use Rattle.word_net.specs.declared.node.Operation.{Operation}
use Rattle.word_net.specs.declared.node.Operation.TheVariants.{Const, Input, State, Free, Unary, Binary, Choose, Join, Repeat, Resize, Slice, Pick, Is, Put, PutPick, Blend}
use Rattle.word_net.specs.declared.node.WordNode.{WordNode}
use Rattle.bit_circuit.specs.Wires.{constant_bits, sign_bit, resized_bits, repeated_bits, part_of, replaced_bits, blended_bits}
use Rattle.bit_circuit.specs.Indexes.{name_of, picks_made, puts_made}
use Rattle.bit_circuit.specs.Sources.{inputs_made, states_made, frees_made}

-- words of one bit
abbrev pub one_bit : Made → Word
one_bit m = word m.nodes (m.bit ∷ [])

abbrev pub one_opposite : Made → Word
one_opposite m = word m.nodes (opposite m.bit ∷ [])

-- the truth value of a word (IEEE 1364-2005, 5.1.9): a chain over its bits
abbrev pub truth_made : List Node → List Literal → Made
truth_made nodes xs = or_all_made nodes (Known false) xs

-- a unary operator on a word
unfoldable pub unary_made : UnaryOp → List Node → List Literal → Word
unary_made unary_op.Plus nodes xs = word nodes xs
unary_made unary_op.Minus nodes xs = minus_made nodes [] xs
unary_made unary_op.LogicalNot nodes xs = one_opposite (truth_made nodes xs)
unary_made unary_op.Not nodes xs = word nodes (map opposite xs)
unary_made unary_op.ReduceAnd nodes xs = one_bit (and_all_made nodes (Known true) xs)
unary_made unary_op.ReduceNand nodes xs = one_opposite (and_all_made nodes (Known true) xs)
unary_made unary_op.ReduceOr nodes xs = one_bit (or_all_made nodes (Known false) xs)
unary_made unary_op.ReduceNor nodes xs = one_opposite (or_all_made nodes (Known false) xs)
unary_made unary_op.ReduceXor nodes xs = one_bit (xor_all_made nodes (Known false) xs)
unary_made unary_op.ReduceXnor nodes xs = one_opposite (xor_all_made nodes (Known false) xs)

-- the truth values of two words, the left one first, and their AND or OR
unfoldable pub both_true_made : List Node → List Literal → List Literal → Made
both_true_made nodes xs ys = let a = truth_made nodes xs in let b = truth_made a.nodes ys in and_made b.nodes a.bit b.bit

unfoldable pub one_true_made : List Node → List Literal → List Literal → Made
one_true_made nodes xs ys = let a = truth_made nodes xs in let b = truth_made a.nodes ys in or_made b.nodes a.bit b.bit

-- a binary operator on two words, and whether each is signed; comparisons and shifts to the right go by sign (5.1.7,
-- 5.1.12)
unfoldable pub binary_made : BinaryOp → Bool → Bool → List Node → List Literal → List Literal → Word
binary_made binary_op.Add left_signed right_signed nodes xs ys = sum_made nodes [] xs ys (Known false)
binary_made binary_op.Subtract left_signed right_signed nodes xs ys = difference_made nodes [] xs ys
binary_made binary_op.Multiply left_signed right_signed nodes xs ys = product_made nodes xs ys
binary_made binary_op.And left_signed right_signed nodes xs ys = bitwise_made bitwise.And nodes [] xs ys
binary_made binary_op.Or left_signed right_signed nodes xs ys = bitwise_made bitwise.Or nodes [] xs ys
binary_made binary_op.Xor left_signed right_signed nodes xs ys = bitwise_made bitwise.Xor nodes [] xs ys
binary_made binary_op.Xnor left_signed right_signed nodes xs ys = bitwise_made bitwise.Xnor nodes [] xs ys
binary_made binary_op.ShiftLeft left_signed right_signed nodes xs ys = shift_made nodes Left (Known false) xs ys
binary_made binary_op.ShiftRight left_signed right_signed nodes xs ys = shift_made nodes Right (Known false) xs ys
binary_made binary_op.ArithmeticShiftLeft left_signed right_signed nodes xs ys = shift_made nodes Left (Known false) xs ys
binary_made binary_op.ArithmeticShiftRight left_signed right_signed nodes xs ys = shift_made nodes Right (sign_bit left_signed xs) xs ys
binary_made binary_op.Less left_signed right_signed nodes xs ys = one_bit (less_made (left_signed && right_signed) nodes xs ys)
binary_made binary_op.LessEqual left_signed right_signed nodes xs ys = one_opposite (less_made (left_signed && right_signed) nodes ys xs)
binary_made binary_op.Greater left_signed right_signed nodes xs ys = one_bit (less_made (left_signed && right_signed) nodes ys xs)
binary_made binary_op.GreaterEqual left_signed right_signed nodes xs ys = one_opposite (less_made (left_signed && right_signed) nodes xs ys)
binary_made binary_op.Equal left_signed right_signed nodes xs ys = one_bit (equal_made nodes (Known true) xs ys)
binary_made binary_op.NotEqual left_signed right_signed nodes xs ys = one_opposite (equal_made nodes (Known true) xs ys)
binary_made binary_op.LogicalAnd left_signed right_signed nodes xs ys = one_bit (both_true_made nodes xs ys)
binary_made binary_op.LogicalOr left_signed right_signed nodes xs ys = one_bit (one_true_made nodes xs ys)

-- the literals of an operand, where the nodes before have these
abbrev pub bits_at : List (List Literal) → Operand → List Literal
bits_at words operand = get_or words operand.node []

-- the literal of a word of one bit
abbrev pub first_bit : List Literal → Literal
first_bit xs = get_or xs 0 (Known false)

-- what an operation makes in a node of a width
unfoldable pub operation_made : List Node → List (List Literal) → ℕ → Operation → Word
operation_made nodes words width (Const value) = word nodes (constant_bits width value)
operation_made nodes words width (Input input) = inputs_made nodes [] input 0 width
operation_made nodes words width (State state) = states_made nodes [] state 0 width
operation_made nodes words width (Free place computed) = frees_made nodes [] place 0 (take width (bits_at words computed))
operation_made nodes words width (Unary op arg) = unary_made op nodes (bits_at words arg)
operation_made nodes words width (Binary op left right) = binary_made op left.signed right.signed nodes (bits_at words left) (bits_at words right)
operation_made nodes words width (Choose test one other) = choice_made nodes [] (first_bit (bits_at words test)) (bits_at words one) (bits_at words other)
operation_made nodes words width (Join high low) = word nodes (bits_at words low ++ bits_at words high)
operation_made nodes words width (Repeat times part) = word nodes (repeated_bits times (bits_at words part))
operation_made nodes words width (Resize arg) = word nodes (resized_bits width (sign_bit arg.signed (bits_at words arg)) (bits_at words arg))
operation_made nodes words width (Slice from_word from) = word nodes (part_of from width (bits_at words from_word))
operation_made nodes words width (Pick from_word select) = picks_made nodes [] (bits_at words select.index) (bits_at words from_word) select select.offsets
operation_made nodes words width (Is index value) = one_bit (match_made nodes (bits_at words index) (name_of index.signed index.width value))
operation_made nodes words width (Put old from size value offset) = word nodes (replaced_bits from (part_of offset size (bits_at words value)) (bits_at words old))
operation_made nodes words width (PutPick old select value offset) =
    puts_made nodes [] (bits_at words select.index) (drop offset (bits_at words value)) select 0 (bits_at words old)
operation_made nodes words width (Blend mask one other) = word nodes (blended_bits mask (bits_at words one) (bits_at words other))

-- the literals of a node
abbrev pub literals_made : List Node → List (List Literal) → WordNode → Word
literals_made nodes words node = operation_made nodes words node.width node.operation
