-- Gates (IEEE 1364-2005, 7.1 to 7.3): each output is a place. A gate takes bit 0 of each of its inputs.
use Rattle.std.specs.Prelude.{⊤, ℕ, ◌-◌, Bool, true, false, ◌||◌, if◌then◌else◌, nat_lt, ℤ, List, [], ◌∷◌, ◌++◌, length, take, drop, Option, Some, None, Result, Ok, Err}
use Rattle.std.specs.Option.{option_map_or}
use Rattle.loc_base.specs.declared.span.Span.{Span}
use Rattle.loc_base.specs.Bits.{value_of}
use Rattle.v_syntax.specs.declared.site.Site.{Site}
use Rattle.v_syntax.specs.declared.item.GateKind.{GateKind}
use Rattle.v_syntax.specs.declared.item.GateKind.TheVariants as gate
use Rattle.v_syntax.specs.Tree.{Tree}
use Rattle.v_syntax.specs.Tree as written
use Rattle.v_syntax.specs.ItemTree.{PlainGate}
use Rattle.design_core.specs.declared.expression.Typed.{Typed}
use Rattle.design_core.specs.declared.expression.Node.{Node, Row_of-Typed, end_of-Typed, more_of-Typed}
use Rattle.design_core.specs.declared.expression.Node.TheVariants as node
use Rattle.design_core.specs.declared.expression.UnaryOp.TheVariants as unary_op
use Rattle.design_core.specs.declared.expression.BinaryOp.{BinaryOp}
use Rattle.design_core.specs.declared.expression.BinaryOp.TheVariants as binary_op
use Rattle.design_core.specs.declared.place.PlaceKind.TheVariants as place_kind
use Rattle.design_core.specs.Operator as operator
use Rattle.v_sizes.specs.Sized.{sized, constant, with_width}
use Rattle.v_hierarchy.specs.Constants.{site_of}
use Rattle.v_hierarchy.specs.Paths.{below, line_part}
use Rattle.v_binding.specs.declared.error.BindErr.{BindErr}
use Rattle.v_binding.specs.declared.error.BindErr.TheVariants as fault
use Rattle.v_binding.specs.Steps.{◌>>=◌, each}
use Rattle.v_binding.specs.Names.{Names}
use Rattle.v_binding.specs.Expressions.{by_itself}
use Rattle.v_binding.specs.declared.left.Left.{Left}
use Rattle.v_binding.specs.Lefts.{target, as_left}
use Rattle.v_binding.specs.Places.{Home}
use Rattle.v_binding.specs.Bound.{Bound}
use Rattle.v_binding.specs.Blocks.{Frame}
use Rattle.v_binding.specs.Assignments.{driven_at}

-- ---- bit 0 of an expression: of a name with its selects that bit alone is read
abbrev pub is_named : Tree → Bool
is_named (written.name _ _ _) = true
is_named _ = false

abbrev pub first_offset : List ℤ → List ℤ
first_offset [] = []
first_offset (k ∷ _) = k ∷ []

-- of what a name is, the last part of a word with zeros beside it
abbrev mutual
  pub low_node : Node → Node
  low_node (node.Whole s) = node.Slice s 0 1
  low_node (node.Slice s from _) = node.Slice s from 1
  low_node (node.Pick' s tag (more_of-Typed width signed index end_of-Typed) offsets) =
      node.Pick s (sized width signed index) (first_offset offsets)
  low_node (node.Word' first count low tag (more_of-Typed width signed index end_of-Typed) from _) =
      node.Word first count low (sized width signed index) from 1
  low_node (node.Join' tag parts) = low_last parts
  low_node (node.Const word) = (constant 1 false (value_of word)).node
  low_node other = other

  pub low_last : {shape : _} → Row_of-Typed shape → Node
  low_last end_of-Typed = (constant 1 false 0).node
  low_last (more_of-Typed _ _ one end_of-Typed) = low_node one
  low_last (more_of-Typed _ _ _ (more_of-Typed width signed one rest)) = low_last (more_of-Typed width signed one rest)

-- the number that a constant is
abbrev pub constant_in : Node → Option ℕ
constant_in (node.Const word) = Some (value_of word)
constant_in _ = None

abbrev pub constant_bit : Typed → Option ℕ
constant_bit e = constant_in e.node

-- a constant of the lowest bit, else what is cut to it
abbrev pub cut : Typed → Typed
cut e = option_map_or (λ a. constant 1 false a) (constant_bit e) (with_width 1 e)

abbrev pub low_bit : Tree → Typed → Typed
low_bit e x = if is_named e then sized 1 false (low_node x.node) else cut x

-- ---- what a gate gives: the operator between its inputs from the left, then the negation
abbrev pub joins : GateKind → BinaryOp
joins gate.And = binary_op.And
joins gate.Nand = binary_op.And
joins gate.Or = binary_op.Or
joins gate.Nor = binary_op.Or
joins gate.Xor = binary_op.Xor
joins gate.Xnor = binary_op.Xor
joins gate.Buf = binary_op.And
joins gate.Not = binary_op.And

abbrev pub negates : GateKind → Bool
negates gate.Nand = true
negates gate.Nor = true
negates gate.Xnor = true
negates gate.Not = true
negates _ = false

-- constants alone give a constant
abbrev pub both : BinaryOp → Typed → Typed → Typed
both op one other = elim (constant_bit one) [
  | Some a ↦ option_map_or (λ b. constant 1 false (operator.binary op 1 false false a b)) (constant_bit other) (sized 1 false (node.Binary op one other))
  | None ↦ sized 1 false (node.Binary op one other)
]

abbrev pub negated : Bool → Typed → Typed
negated false e = e
negated true e = elim (constant_bit e) [
  | Some a ↦ constant 1 false (operator.unary unary_op.Not 1 a)
  | None ↦ sized 1 false (node.Unary unary_op.Not e)
]

-- the bits of the inputs together, behind those before
abbrev pub input_at : Names → GateKind → Tree → Option Typed → Result (Option Typed) BindErr
input_at names kind e before = by_itself names e >>= λ x. Ok (Some (option_map_or (λ one. both (joins kind) one (low_bit e x)) before (low_bit e x)))

abbrev pub value_of_gate : GateKind → Option Typed → Typed
value_of_gate kind inputs = negated (negates kind) (option_map_or (λ e. e) inputs (constant 1 false 0))

-- the value for a left side, extended by 0
abbrev pub for_width : ℕ → Typed → Typed
for_width width e = elim (constant_bit e) [
  | Some a ↦ constant width false a
  | None ↦ if nat_lt 1 width then sized width false (node.Resize e) else e
]

-- ---- terminals: outputs, then inputs
abbrev pub last_alone : GateKind → Bool
last_alone gate.Buf = true
last_alone gate.Not = true
last_alone _ = false

abbrev pub outputs_of : GateKind → List Tree → List Tree
outputs_of kind terminals = if last_alone kind then take (length terminals - 1) terminals else take 1 terminals

abbrev pub inputs_of : GateKind → List Tree → List Tree
inputs_of kind terminals = if last_alone kind then drop (length terminals - 1) terminals else drop 1 terminals

-- at least two terminals, and at most 4,096 inputs
abbrev pub terminals_fit : GateKind → PlainGate → Result ⊤ BindErr
terminals_fit kind g =
    if nat_lt (length g.terminals) 2 || nat_lt 4096 (length (inputs_of kind g.terminals)) then Err (fault.PortName g.site.span) else Ok tt

-- an output is a left side
pub record Output : Type 0 where
  pub site : Site
  pub left : Left

abbrev pub output_at : Names → Tree → List Output → Result (List Output) BindErr
output_at names e done = elim (as_left e) [
  | None ↦ Err (fault.PortName (site_of e).span)
  | Some l ↦ target names l >>= λ x. Ok (done ++ record { site = site_of e; left = x } ∷ [])
]

abbrev pub outputs_driven : Frame → Home → Span → ℕ → Typed → List Output → Bound → Bound
outputs_driven f home span copy e [] b = b
outputs_driven f home span copy e (o ∷ os) b =
    outputs_driven f home span copy e os (driven_at f home place_kind.Gate o.site copy span o.left (for_width o.left.width e) b)

-- ---- a gate; one without a name has its line
abbrev pub gate_home : Home → PlainGate → Home
gate_home home g =
    record { «module» = home.«module»; path = below home.path (option_map_or (λ name. name) g.name (line_part g.site)); item = home.item }

abbrev pub gate_of : Frame → Home → Names → GateKind → PlainGate → Bound → Result Bound BindErr
gate_of f home names kind g b =
    terminals_fit kind g >>= λ _. each (output_at names) (outputs_of kind g.terminals) [] >>= λ outputs.
    each (input_at names kind) (inputs_of kind g.terminals) None >>= λ inputs.
    Ok (outputs_driven f (gate_home home g) g.site.span (length b.places) (value_of_gate kind inputs) outputs b)
