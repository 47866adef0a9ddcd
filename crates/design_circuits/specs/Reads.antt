-- What the source nodes of a design's net read: an input, a state and a place of the design, each of the node's width.
use Rattle.std.specs.Prelude.{ℕ, ◌≡◌, List, slice_get, Some}
use Rattle.design_core.specs.declared.place.Place.{Place}
use Rattle.design_core.specs.declared.design.Design.{Design}
use Rattle.design_core.specs.Valuation.{width_at}
use Rattle.word_net.specs.declared.node.Operand.{Operand}
use Rattle.word_net.specs.declared.node.Operation.{Operation}
use Rattle.word_net.specs.declared.node.Operation.TheVariants.{Const, Input, State, Free, Unary, Binary, Choose, Join, Repeat, Resize, Slice, Pick, Is, Put, PutPick, Blend}
use Rattle.word_net.specs.declared.node.WordNode.{WordNode}
use Rattle.v_synth.specs.Net.{states_of}

-- a number in a list of signals is that of a signal of a width
abbrev pub IsSignalOf : Design → List ℕ → ℕ → ℕ → Type 0
IsSignalOf d signals i width = (s : ℕ) × (slice_get signals i ≡ Some s) × (width_at d.signals.items s ≡ width)

-- the number of a place of a width
abbrev pub IsPlaceOf : Design → ℕ → ℕ → Type 0
IsPlaceOf d p width = (place : Place) × (slice_get d.places.items p ≡ Some place) × (place.width ≡ width)

-- a node of a width reads what the design has
abbrev pub ReadsDesign : Design → ℕ → Operation → Type 0
ReadsDesign d width (Const word) = Unit {0}
ReadsDesign d width (Input input) = IsSignalOf d d.inputs.items input width
ReadsDesign d width (State state) = IsSignalOf d (states_of d) state width
ReadsDesign d width (Free place computed) = IsPlaceOf d place width
ReadsDesign d width (Unary op arg) = Unit {0}
ReadsDesign d width (Binary op left right) = Unit {0}
ReadsDesign d width (Choose test one other) = Unit {0}
ReadsDesign d width (Join high low) = Unit {0}
ReadsDesign d width (Repeat times part) = Unit {0}
ReadsDesign d width (Resize arg) = Unit {0}
ReadsDesign d width (Slice word from) = Unit {0}
ReadsDesign d width (Pick word select) = Unit {0}
ReadsDesign d width (Is index value) = Unit {0}
ReadsDesign d width (Put old from size word offset) = Unit {0}
ReadsDesign d width (PutPick old select word offset) = Unit {0}
ReadsDesign d width (Blend mask one other) = Unit {0}

-- each node does
abbrev pub AllReadDesign : Design → List WordNode → Type 0
AllReadDesign d nodes = (i : ℕ) (node : WordNode) → slice_get nodes i ≡ Some node → ReadsDesign d node.width node.operation

-- the node that assigns a place, which has the place's width
pub record PlaceNode (nodes : List WordNode) (p width : ℕ) : Type 0 where
  pub number : ℕ
  pub node : WordNode
  pub computed : Operand
  pub there : slice_get nodes number ≡ Some node
  pub assigns : node.operation ≡ Free p computed
  pub wide : node.width ≡ width

-- each place of the design has its node
abbrev pub HasEachPlace : Design → List WordNode → Type 0
HasEachPlace d nodes = (p : ℕ) (place : Place) → slice_get d.places.items p ≡ Some place → PlaceNode nodes p place.width
