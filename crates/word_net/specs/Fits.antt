-- When the nodes of a net fit: each reads earlier nodes of the widths that it names, and its own width is the one that its
-- operator gives (IEEE 1364-2005, 5.4).
use Rattle.std.specs.Prelude.{ℕ, ◌≡◌, ◌≤◌, ◌<◌, ◌+◌, ◌*◌, ◌^◌, IsTrue, List, [], ◌∷◌, ◌++◌, length, map, slice_get, Some}
use Rattle.design_core.specs.Valuation.{distance_of}
use Rattle.design_core.specs.WellFormed.{is_width, spans, unary_fits, binary_fits}
use Rattle.word_net.specs.declared.node.Operand.{Operand}
use Rattle.word_net.specs.declared.node.Select.{Select}
use Rattle.word_net.specs.declared.node.Operation.{Operation}
use Rattle.word_net.specs.declared.node.Operation.TheVariants.{Const, Input, State, Free, Unary, Binary, Choose, Join, Repeat, Resize, Slice, Pick, Is, Put, PutPick, Blend}
use Rattle.word_net.specs.declared.node.WordNode.{WordNode}

-- an operand is a node that is there, of that width; the widths are those of the nodes so far
abbrev pub OperandFits : List ℕ → Operand → Type 0
OperandFits widths operand = slice_get widths operand.node ≡ Some operand.width

-- the operand has the width that the operation asks for
pub record OfWidth (widths : List ℕ) (operand : Operand) (width : ℕ) : Type 0 where
  pub there : OperandFits widths operand
  pub wide : operand.width ≡ width

-- a select fits a word: its index is there, and the word's range has the word's width
pub record SelectFits (widths : List ℕ) (word : Operand) (select : Select) : Type 0 where
  pub index : OperandFits widths select.index
  pub range : IsTrue (spans word.width (distance_of select.left select.right select.left))

-- what an operation asks of its operands, in a node of a width
abbrev pub OperationFits : List ℕ → ℕ → Operation → Type 0
OperationFits widths width (Const word) = word < 2 ^ width
OperationFits widths width (Input input) = Unit {0}
OperationFits widths width (State state) = Unit {0}
OperationFits widths width (Free place computed) = OperandFits widths computed × (width ≤ computed.width)
OperationFits widths width (Unary op arg) = OperandFits widths arg × IsTrue (unary_fits op width arg.width)
OperationFits widths width (Binary op left right) =
    OperandFits widths left × OperandFits widths right × IsTrue (binary_fits op width left.width right.width)
OperationFits widths width (Choose test one other) = OfWidth widths test 1 × OfWidth widths one width × OfWidth widths other width
OperationFits widths width (Join high low) = OperandFits widths high × OperandFits widths low × (high.width + low.width ≡ width)
OperationFits widths width (Repeat times part) = OperandFits widths part × (times * part.width ≡ width)
OperationFits widths width (Resize arg) = OperandFits widths arg
OperationFits widths width (Slice word from) = OperandFits widths word × (from + width ≤ word.width)
OperationFits widths width (Pick word select) = OperandFits widths word × SelectFits widths word select × (length select.offsets ≡ width)
OperationFits widths width (Is index value) = OperandFits widths index × (width ≡ 1)
OperationFits widths width (Put old from size word offset) =
    OfWidth widths old width × OperandFits widths word × (from + size ≤ width) × (offset + size ≤ word.width)
OperationFits widths width (PutPick old select word offset) =
    OfWidth widths old width × OperandFits widths word × SelectFits widths old select × (offset + length select.offsets ≤ word.width)
OperationFits widths width (Blend mask one other) = OfWidth widths one width × OfWidth widths other width × (mask < 2 ^ width)

-- a node of 1 to 128 bits whose operands are among the nodes so far, which have these widths
pub record NodeFits (widths : List ℕ) (node : WordNode) : Type 0 where
  pub width : IsTrue (is_width node.width)
  pub operation : OperationFits widths node.width node.operation

-- the nodes fit, behind nodes of these widths
abbrev pub AllFit : List ℕ → List WordNode → Type 0
AllFit widths [] = Unit {0}
AllFit widths (node ∷ nodes) = NodeFits widths node × AllFit (widths ++ node.width ∷ []) nodes

-- the widths of nodes
abbrev pub widths_of : List WordNode → List ℕ
widths_of nodes = map (λ node. node.width) nodes
