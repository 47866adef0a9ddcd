-- A net: nodes, those that are outputs, those that are next states, and the states before the first cycle.
use Rattle.std.specs.Prelude.{ℕ, ◌≡◌, ◌<◌, ◌≤◌, ◌+◌, ◌^◌, Bool, true, false, if◌then◌else◌, List, [], ◌∷◌, length, map, slice_get, Some}
use Rattle.loc_base.specs.declared.bits.Bits.{Bits}
use Rattle.loc_base.specs.Bits.{width_of}
use Rattle.word_net.specs.declared.node.Operand.{Operand}
use Rattle.word_net.specs.declared.node.Operation.{Operation}
use Rattle.word_net.specs.declared.node.Operation.TheVariants.{Const, Input, State, Free, Unary, Binary, Choose, Join, Repeat, Resize, Slice, Pick, Is, Put, PutPick, Blend}
use Rattle.word_net.specs.declared.node.WordNode.{WordNode}
use Rattle.word_net.specs.Fits.{AllFit, widths_of}

pub record Net : Type 0 where
  pub nodes : List WordNode
  pub outputs : List ℕ
  pub next : List ℕ
  pub start : List Bits

-- a node that reads a state of its width, which has a next state and a start value of that width
pub record StateFits (net : Net) (state width : ℕ) : Type 0 where
  pub start : slice_get (map width_of net.start) state ≡ Some width
  pub next : ℕ
  pub is_next : slice_get net.next state ≡ Some next
  pub next_width : slice_get (widths_of net.nodes) next ≡ Some width

-- whether an operation reads an input or a state
abbrev pub is_source : Operation → Bool
is_source (Const word) = false
is_source (Input input) = true
is_source (State state) = true
is_source (Free place computed) = false
is_source (Unary op arg) = false
is_source (Binary op left right) = false
is_source (Choose test one other) = false
is_source (Join high low) = false
is_source (Repeat times part) = false
is_source (Resize arg) = false
is_source (Slice word from) = false
is_source (Pick word select) = false
is_source (Is index value) = false
is_source (Put old from size word offset) = false
is_source (PutPick old select word offset) = false
is_source (Blend mask one other) = false

-- how many bits of inputs and of states the nodes are
unfoldable pub source_bits : List WordNode → ℕ
source_bits [] = 0
source_bits (node ∷ nodes) = if is_source node.operation then node.width + source_bits nodes else source_bits nodes

-- what a net keeps
pub record IsNet (net : Net) : Type 0 where
  -- each node reads earlier ones, whose widths fit
  pub nodes : AllFit [] net.nodes
  -- outputs and next states are nodes
  pub outputs : (i n : ℕ) → slice_get net.outputs i ≡ Some n → n < length net.nodes
  pub next : (i n : ℕ) → slice_get net.next i ≡ Some n → n < length net.nodes
  -- each state that a node reads has its next state and its start value
  pub states : (i state : ℕ) (node : WordNode) → slice_get net.nodes i ≡ Some node → node.operation ≡ State state → StateFits net state node.width
  -- each place has one free node at most
  pub places : (i j place : ℕ) (one other : WordNode) (a b : Operand) → slice_get net.nodes i ≡ Some one → slice_get net.nodes j ≡ Some other
      → one.operation ≡ Free place a → other.operation ≡ Free place b → i ≡ j
  -- bits of inputs and of states can be counted
  pub sources : source_bits net.nodes ≤ 2 ^ 31
