-- The value of each node of a net, as a whole number below 2 ^ width, where inputs, states, freed places and chosen values
-- are given. The operators are those of expressions (IEEE 1364-2005, clause 5).
use Rattle.std.specs.Prelude.{ℕ, ◌+◌, ◌*◌, ◌^◌, if◌then◌else◌, ℤ, List, [], ◌∷◌, ◌++◌, get_or}
use Rattle.std.specs.Ordering.{int_eq}
use Rattle.design_core.specs.Valuation.{bit, number}
use Rattle.design_core.specs.Operator.{is_true, one_if, integer_of, unary, binary, repeated, resized}
use Rattle.design_core.specs.After.{Choice, assigned}
use Rattle.word_net.specs.declared.node.Operand.{Operand}
use Rattle.word_net.specs.declared.node.Select.{Select}
use Rattle.word_net.specs.declared.node.Operation.{Operation}
use Rattle.word_net.specs.declared.node.Operation.TheVariants.{Const, Input, State, Free, Unary, Binary, Choose, Join, Repeat, Resize, Slice, Pick, Is, Put, PutPick, Blend}
use Rattle.word_net.specs.declared.node.WordNode.{WordNode}
use Rattle.word_net.specs.Selects.{Range, picked_bit, put_bits, put_picked}

-- where values come from: the numbers of the inputs and of the states, and the freed places with their values
pub record Source : Type 0 where
  pub inputs : ℕ → ℕ
  pub states : ℕ → ℕ
  pub choice : Choice

-- what an operand reads, where the nodes before it have these values
abbrev pub read : List ℕ → Operand → ℕ
read known operand = get_or known operand.node 0

-- the whole number that it means by its sign
abbrev pub index_read : List ℕ → Operand → ℤ
index_read known operand = integer_of operand.signed operand.width (read known operand)

-- the range of a word, as a select declares it
abbrev pub range_of : Operand → Select → Range
range_of word select = record { width = word.width; left = select.left; right = select.right }

-- what an operation gives in a node of a width, where the nodes before it have these values
abbrev pub operation_value : Source → List ℕ → ℕ → Operation → ℕ
operation_value e known width (Const word) = word
operation_value e known width (Input input) = e.inputs input
operation_value e known width (State state) = e.states state
operation_value e known width (Free place computed) = number width (bit (assigned e.choice place (read known computed)))
operation_value e known width (Unary op arg) = unary op arg.width (read known arg)
operation_value e known width (Binary op left right) = binary op left.width left.signed right.signed (read known left) (read known right)
operation_value e known width (Choose test one other) = if is_true (read known test) then read known one else read known other
operation_value e known width (Join high low) = read known high * 2 ^ low.width + read known low
operation_value e known width (Repeat times part) = repeated times part.width (read known part)
operation_value e known width (Resize arg) = resized width arg.signed arg.width (read known arg)
operation_value e known width (Slice word from) = number width (λ b. bit (read known word) (from + b))
operation_value e known width (Pick word select) =
    number width (picked_bit (range_of word select) (bit (read known word)) (index_read known select.index) select.offsets)
operation_value e known width (Is index value) = one_if (int_eq (index_read known index) value)
operation_value e known width (Put old from size word offset) =
    number width (put_bits (bit (read known old)) from size (λ b. bit (read known word) (offset + b)))
operation_value e known width (PutPick old select word offset) =
    number width (put_picked (range_of old select) (bit (read known old)) (index_read known select.index) 0 select.offsets (λ b. bit (read known word) (offset + b)))
operation_value e known width (Blend mask one other) =
    number width (λ b. if bit mask b then bit (read known one) b else bit (read known other) b)

-- the value of a node, where the nodes before it have these values
unfoldable pub word_value : Source → List ℕ → WordNode → ℕ
word_value e known node = operation_value e known node.width node.operation

-- the values of nodes, behind those of the nodes before them
unfoldable pub values : Source → List ℕ → List WordNode → List ℕ
values e known [] = known
values e known (node ∷ nodes) = values e (known ++ word_value e known node ∷ []) nodes

-- the value of each node of a net
abbrev pub net_values : Source → List WordNode → List ℕ
net_values e nodes = values e [] nodes
