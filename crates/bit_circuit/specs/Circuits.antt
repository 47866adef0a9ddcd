-- The circuit of a net: its nodes, made node by node of the net; the literals of the outputs and of the next states; and the
-- states before the first cycle.
use Rattle.std.specs.Prelude.{ℕ, ◌≡◌, ◌<◌, List, [], ◌∷◌, ◌++◌, length, map, get_or, slice_get, Some}
use Rattle.loc_base.specs.declared.bits.Bits.{Bits}
use Rattle.loc_base.specs.Bits.{width_of}
use Rattle.gate_base.specs.declared.literal.Literal.{Literal}
use Rattle.gate_base.specs.declared.node.Node.{Node}
use Rattle.gate_base.specs.declared.node.Node.TheVariants.{State, Free}
use Rattle.gate_base.specs.Literals.{IsBelow}
use Rattle.gate_base.specs.Nodes.{AreOrdered}
use Rattle.word_net.specs.declared.node.Operand.{Operand}
use Rattle.word_net.specs.declared.node.Operation.TheVariants as operation
use Rattle.word_net.specs.declared.node.WordNode.{WordNode}
use Rattle.word_net.specs.Nets.{Net}
use Rattle.bit_circuit.specs.Nodes.{literals_made}

-- the nodes of a circuit, and for each node of a net its literals, from bit 0
pub record Expanded : Type 0 where
  pub nodes : List Node
  pub words : List (List Literal)

abbrev pub expansion : List Node → List (List Literal) → Expanded
expansion nodes words = record { nodes = nodes; words = words }

-- the nodes of a net, one after another, behind what is there
unfoldable pub expanded : List Node → List (List Literal) → List WordNode → Expanded
expanded nodes words [] = expansion nodes words
expanded nodes words (node ∷ rest) = let m = literals_made nodes words node in expanded m.nodes (words ++ m.bits ∷ []) rest

-- the literals of some nodes of a net
abbrev pub words_at : List (List Literal) → List ℕ → List (List Literal)
words_at words numbers = map (λ n. get_or words n []) numbers

-- what contracts see of a circuit: outputs and next states are words of literals, from bit 0
pub record BitNet : Type 0 where
  pub nodes : List Node
  pub outputs : List (List Literal)
  pub next : List (List Literal)
  pub start : List Bits

unfoldable pub circuit_of : Net → BitNet
circuit_of net =
    let x = expanded [] [] net.nodes in
    record { nodes = x.nodes; outputs = words_at x.words net.outputs; next = words_at x.words net.next; start = net.start }

-- each literal of each word is a constant or of a node that is there
abbrev pub AreThere : List Node → List (List Literal) → Type 0
AreThere nodes words = (i b : ℕ) (xs : List Literal) (x : Literal) → slice_get words i ≡ Some xs → slice_get xs b ≡ Some x → IsBelow (length nodes) x

-- a bit of a state that has its literal and its constant
pub record HasNext (circuit : BitNet) (state bit : ℕ) : Type 0 where
  pub next : List Literal
  pub is_next : slice_get circuit.next state ≡ Some next
  pub in_next : bit < length next
  pub start : Bits
  pub is_start : slice_get circuit.start state ≡ Some start
  pub in_start : bit < width_of start

-- a free bit is one of a free node of the net
pub record HasFree (net : List WordNode) (p b : ℕ) : Type 0 where
  pub at : ℕ
  pub node : WordNode
  pub there : slice_get net at ≡ Some node
  pub computed : Operand
  pub is : node.operation ≡ operation.Free p computed
  pub within : b < node.width

-- what a circuit keeps
pub record IsCircuit (circuit : BitNet) : Type 0 where
  -- operands of a node are of nodes before it, those of an AND of two different ones
  pub nodes : AreOrdered circuit.nodes
  -- outputs and next states are there
  pub outputs : AreThere circuit.nodes circuit.outputs
  pub next : AreThere circuit.nodes circuit.next
  -- each bit of a state that is read has its next state and its start
  pub states : (i state bit : ℕ) → slice_get circuit.nodes i ≡ Some (State state bit) → HasNext circuit state bit
  -- a bit of a place is free in one node at most
  pub frees : (i j moment other place bit : ℕ) (one two : Literal) → slice_get circuit.nodes i ≡ Some (Free moment place bit one)
      → slice_get circuit.nodes j ≡ Some (Free other place bit two) → i ≡ j
