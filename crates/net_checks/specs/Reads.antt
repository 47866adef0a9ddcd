-- Which state and which place an operation names.
use Rattle.std.specs.Prelude.{ℕ, ◌≡◌, ◌<◌, List, map, Option, Some, None, slice_get}
use Rattle.loc_base.specs.declared.bits.Bits.{Bits}
use Rattle.loc_base.specs.Bits.{width_of}
use Rattle.word_net.specs.declared.node.Operation.{Operation}
use Rattle.word_net.specs.declared.node.Operation.TheVariants.{State, Free}
use Rattle.word_net.specs.declared.node.WordNode.{WordNode}

-- the state that is read
abbrev pub state_of : Operation → Option ℕ
state_of (State state) = Some state
state_of _ = None

-- the place that is freed
abbrev pub place_of : Operation → Option ℕ
place_of (Free place computed) = Some place
place_of _ = None

-- a state has a next state of a width
pub record IsNext (next widths : List ℕ) (state width : ℕ) : Type 0 where
  pub node : ℕ
  pub is_next : slice_get next state ≡ Some node
  pub wide : slice_get widths node ≡ Some width

-- a state has a start and a next state of a width
pub record HasBoth (start : List Bits) (next widths : List ℕ) (state width : ℕ) : Type 0 where
  pub starts : slice_get (map width_of start) state ≡ Some width
  pub goes_on : IsNext next widths state width

-- the state that a node reads has them
pub record IsHeld (start : List Bits) (next widths : List ℕ) (node : WordNode) : Type 0 where
  pub each : (state : ℕ) → state_of node.operation ≡ Some state → HasBoth start next widths state node.width

-- those that nodes read have them
pub record AreHeld (start : List Bits) (next widths : List ℕ) (nodes : List WordNode) : Type 0 where
  pub each : (i : ℕ) (node : WordNode) → slice_get nodes i ≡ Some node → IsHeld start next widths node

-- no node frees a place
pub record FreesNot (nodes : List WordNode) (place : ℕ) : Type 0 where
  pub each : (i : ℕ) (node : WordNode) → slice_get nodes i ≡ Some node → place_of node.operation ≡ Some place → ⊥

-- no two nodes free one place
pub record FreeOnce (nodes : List WordNode) : Type 0 where
  pub each : (i j place : ℕ) (one other : WordNode) → slice_get nodes i ≡ Some one → slice_get nodes j ≡ Some other
      → place_of one.operation ≡ Some place → place_of other.operation ≡ Some place → i ≡ j

-- numbers below a bound
pub record AreNumbers (bound : ℕ) (numbers : List ℕ) : Type 0 where
  pub each : (i n : ℕ) → slice_get numbers i ≡ Some n → n < bound
