-- What the literals of a circuit mean: the bits of the net's values.
use Rattle.std.specs.Prelude.{ℕ, ◌≡◌, ◌≤◌, ◌<◌, ◌^◌, List, [], ◌∷◌, length, get_or, slice_get, Some}
use Rattle.gate_base.specs.declared.literal.Literal.{Literal}
use Rattle.gate_base.specs.declared.node.Node.{Node}
use Rattle.gate_base.specs.Meaning.{Source, Grown}
use Rattle.gate_base.specs.Nodes.{Word}
use Rattle.bit_words.specs.Bits.{IsWord}
use Rattle.design_core.specs.Valuation.{bit}
use Rattle.word_net.specs.Values.{Source as WordSource, net_values}
use Rattle.word_net.specs.Fits.{widths_of}
use Rattle.word_net.specs.Nets.{Net}
use Rattle.bit_circuit.specs.Circuits.{circuit_of}
use Rattle.word_net.specs.declared.node.Operation.{Operation}
use Rattle.word_net.specs.declared.node.Operation.TheVariants.{Const, Input, State, Free, Unary, Binary, Choose, Join, Repeat, Resize, Slice, Pick, Is, Put, PutPick, Blend}
use Rattle.word_net.specs.declared.node.WordNode.{WordNode}

-- the bits of what is given as words; the same choice in each moment
abbrev pub bits_of : WordSource → Source
bits_of e = record {
  inputs = λ input b. bit (e.inputs input) b;
  states = λ state b. bit (e.states state) b;
  frees = e.choice.frees;
  chosen = λ moment place b. bit (e.choice.chosen place) b;
}

-- an input or a state is given as a number of the width with which a node reads it
abbrev pub IsOfWidth : WordSource → ℕ → Operation → Type 0
IsOfWidth e width (Const value) = Unit {0}
IsOfWidth e width (Input input) = e.inputs input < 2 ^ width
IsOfWidth e width (State state) = e.states state < 2 ^ width
IsOfWidth e width (Free place computed) = Unit {0}
IsOfWidth e width (Unary op arg) = Unit {0}
IsOfWidth e width (Binary op left right) = Unit {0}
IsOfWidth e width (Choose test one other) = Unit {0}
IsOfWidth e width (Join high low) = Unit {0}
IsOfWidth e width (Repeat times part) = Unit {0}
IsOfWidth e width (Resize arg) = Unit {0}
IsOfWidth e width (Slice word from) = Unit {0}
IsOfWidth e width (Pick word select) = Unit {0}
IsOfWidth e width (Is index value) = Unit {0}
IsOfWidth e width (Put old from size word offset) = Unit {0}
IsOfWidth e width (PutPick old select word offset) = Unit {0}
IsOfWidth e width (Blend mask one other) = Unit {0}

abbrev pub AreOfWidth : WordSource → List WordNode → Type 0
AreOfWidth e [] = Unit {0}
AreOfWidth e (node ∷ nodes) = IsOfWidth e node.width node.operation × AreOfWidth e nodes

-- as many literals as the width, which mean the bits of the number
pub record IsOf (e : Source) (nodes : List Node) (literals : List Literal) (width value : ℕ) : Type 0 where
  pub wide : length literals ≡ width
  pub is : IsWord e nodes literals value

-- the nodes grow, and the literals of the new word are as many as the width and mean the bits of the number
pub record GivesOf (e : Source) (nodes : List Node) (w : Word) (width value : ℕ) : Type 0 where
  pub grown : Grown nodes w.nodes
  pub is : IsOf e w.nodes w.bits width value

-- words of literals, with their widths and the numbers whose bits they mean
pub record AreOf (e : Source) (nodes : List Node) (words : List (List Literal)) (widths known : List ℕ) : Type 0 where
  pub as_many : length words ≡ length widths
  pub as_known : length known ≡ length widths
  pub some : (i width : ℕ) → slice_get widths i ≡ Some width → 1 ≤ width
  pub is : (i width : ℕ) → slice_get widths i ≡ Some width → IsOf e nodes (get_or words i []) width (get_or known i 0)

-- a net, and what is given to it as words
pub record GivenNet : Type 0 where
  pub net : Net
  pub source : WordSource

-- literals of the circuit of a net, for nodes of the net: as many as the node's width, they mean the bits of its value
abbrev pub MeanNodes : GivenNet → List ℕ → List (List Literal) → Type 0
MeanNodes of numbers words =
    (i n width : ℕ) → slice_get numbers i ≡ Some n → slice_get (widths_of of.net.nodes) n ≡ Some width
    → IsOf (bits_of of.source) (circuit_of of.net).nodes (get_or words i []) width (get_or (net_values of.source of.net.nodes) n 0)
