-- Worked examples: circuits of small nets, node for node.
use Rattle.std.proofs.Common.{◌≡◌, ℕ, List, [], ◌∷◌, refl}
use Rattle.std.specs.Prelude.{Bool, true, false, pos}
use Rattle.gate_base.specs.declared.literal.Literal.{Literal}
use Rattle.gate_base.specs.declared.literal.Literal.TheVariants.{Of}
use Rattle.gate_base.specs.declared.node.Node.TheVariants as gate
use Rattle.gate_base.specs.Literals.{opposite, is_same, folded}
use Rattle.gate_base.specs.Nodes.{pushed, made_unless, and_made, or_made, mux_made, input_made, free_made}
use Rattle.design_core.specs.declared.expression.UnaryOp.TheVariants as unary_op
use Rattle.design_core.specs.declared.expression.BinaryOp.TheVariants as binary_op
use Rattle.bit_words.specs.Bitwise.{bit_made, bitwise_made}
use Rattle.bit_words.specs.Index.{number_made, match_made, pick_made, put_made}
use Rattle.word_net.specs.declared.node.Operand.{Operand}
use Rattle.word_net.specs.declared.node.Select.{Select}
use Rattle.word_net.specs.declared.node.Operation.{Operation}
use Rattle.word_net.specs.declared.node.Operation.TheVariants as operation
use Rattle.word_net.specs.declared.node.WordNode.{WordNode}
use Rattle.word_net.specs.Nets.{Net}
use Rattle.bit_circuit.specs.Indexes.{names_from, picks_made, puts_made}
use Rattle.bit_circuit.specs.Sources.{inputs_made, frees_made}
use Rattle.bit_circuit.specs.Nodes.{unary_made, binary_made, operation_made}
use Rattle.bit_circuit.specs.Circuits.{BitNet, expanded, circuit_of}

abbrev bit : ℕ → Operand
bit node = record { node = node; width = 1; signed = false }

abbrev node : Operation → WordNode
node operation = record { width = 1; operation = operation }

abbrev of : ℕ → Literal
of node = Of node false

abbrev not_of : ℕ → Literal
not_of node = Of node true

-- n = a | b and y = ~n: the inputs, the AND of their opposites, and a free bit for each place
abbrev or_not : Net
or_not = record {
  nodes = node (operation.Input 0) ∷ node (operation.Input 1)
      ∷ node (operation.Binary binary_op.Or (bit 0) (bit 1)) ∷ node (operation.Free 0 (bit 2))
      ∷ node (operation.Unary unary_op.Not (bit 3)) ∷ node (operation.Free 1 (bit 4)) ∷ [];
  outputs = 5 ∷ [];
  next = [];
  start = [];
}

abbrev or_not_circuit : BitNet
or_not_circuit = record {
  nodes = gate.Input 0 0 ∷ gate.Input 1 0 ∷ gate.And (not_of 0) (not_of 1) ∷ gate.Free 0 0 0 (not_of 2) ∷ gate.Free 0 1 0 (not_of 3) ∷ [];
  outputs = (of 4 ∷ []) ∷ [];
  next = [];
  start = [];
}

or-not : circuit_of or_not ≡ or_not_circuit
unfolding circuit_of expanded operation_made unary_made binary_made inputs_made frees_made bitwise_made bit_made or_made and_made made_unless folded opposite pushed input_made free_made
or-not = refl

-- ---- x[i] for a word x[1:0] of two bits and an index i of one bit

abbrev two : ℕ → Operand
two node = record { node = node; width = 2; signed = false }

abbrev by_index : Bool → Select
by_index signed = record { index = record { node = 1; width = 1; signed = signed }; left = pos 1; right = pos 0; offsets = pos 0 ∷ [] }

abbrev net_of_nodes : List WordNode → ℕ → Net
net_of_nodes nodes output = record { nodes = nodes; outputs = output ∷ []; next = []; start = [] }

abbrev read_by : Bool → Net
read_by signed =
    net_of_nodes (record { width = 2; operation = operation.Input 0 } ∷ node (operation.Input 1) ∷ node (operation.Pick (two 0) (by_index signed)) ∷ []) 2

-- both bits are named
abbrev read_circuit : BitNet
read_circuit = record {
  nodes = gate.Input 0 0 ∷ gate.Input 0 1 ∷ gate.Input 1 0 ∷ gate.And (of 0) (not_of 2) ∷ gate.And (of 1) (of 2) ∷ gate.And (not_of 3) (not_of 4) ∷ [];
  outputs = (not_of 5 ∷ []) ∷ [];
  next = [];
  start = [];
}

read : circuit_of (read_by false) ≡ read_circuit
unfolding circuit_of expanded operation_made inputs_made picks_made names_from pick_made match_made number_made or_made and_made made_unless folded opposite pushed input_made
read = refl

-- a signed index of one bit is 0 or -1, so that no number of it names the upper bit
abbrev signed_circuit : BitNet
signed_circuit = record {
  nodes = gate.Input 0 0 ∷ gate.Input 0 1 ∷ gate.Input 1 0 ∷ gate.And (of 0) (not_of 2) ∷ [];
  outputs = (of 3 ∷ []) ∷ [];
  next = [];
  start = [];
}

read-signed : circuit_of (read_by true) ≡ signed_circuit
unfolding circuit_of expanded operation_made inputs_made picks_made names_from pick_made match_made number_made or_made and_made made_unless folded opposite pushed input_made
read-signed = refl

-- x[i] = v: for each bit of x a MUX of v and what it was
abbrev store : Net
store = net_of_nodes (
    record { width = 2; operation = operation.Input 0 } ∷ node (operation.Input 1) ∷ node (operation.Input 2)
    ∷ record { width = 2; operation = operation.PutPick (two 0) (by_index false) (bit 2) 0 } ∷ []) 3

abbrev store_circuit : BitNet
store_circuit = record {
  nodes = gate.Input 0 0 ∷ gate.Input 0 1 ∷ gate.Input 1 0 ∷ gate.Input 2 0
      ∷ gate.And (not_of 2) (of 3) ∷ gate.And (of 2) (of 0) ∷ gate.And (not_of 4) (not_of 5)
      ∷ gate.And (of 2) (of 3) ∷ gate.And (not_of 2) (of 1) ∷ gate.And (not_of 7) (not_of 8) ∷ [];
  outputs = (not_of 6 ∷ not_of 9 ∷ []) ∷ [];
  next = [];
  start = [];
}

stored : circuit_of store ≡ store_circuit
unfolding circuit_of expanded operation_made inputs_made puts_made put_made match_made number_made mux_made is_same or_made and_made made_unless folded opposite pushed input_made
stored = refl
