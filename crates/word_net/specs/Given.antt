-- What is given to a cycle of a net as words: its states, its inputs, which places are freed, and the values chosen.
use Rattle.std.specs.Prelude.{ℕ, ◌≡◌, ◌<◌, Bool, List, length, map, slice_get, Some}
use Rattle.std.specs.Option.{option_map_or}
use Rattle.loc_base.specs.declared.bits.Bits.{Bits}
use Rattle.loc_base.specs.Bits.{width_of, value_of}
use Rattle.design_core.specs.Words.{choice_of}
use Rattle.word_net.specs.declared.node.Operation.{Operation}
use Rattle.word_net.specs.declared.node.Operation.TheVariants.{Const, Input, State, Free, Unary, Binary, Choose, Join, Repeat, Resize, Slice, Pick, Is, Put, PutPick, Blend}
use Rattle.word_net.specs.declared.node.WordNode.{WordNode}
use Rattle.word_net.specs.Values.{Source}

pub record Given : Type 0 where
  pub states : List Bits
  pub inputs : List Bits
  pub freed : List Bool
  pub chosen : List Bits

-- the number of a word of a list
abbrev pub number_at : List Bits → ℕ → ℕ
number_at words i = option_map_or value_of (slice_get words i) 0

-- the source that they are
abbrev pub source_of : Given → Source
source_of g = record { inputs = number_at g.inputs; states = number_at g.states; choice = choice_of g.freed g.chosen }

-- there is a word of that number, and it has that width
abbrev pub HasWord : List Bits → ℕ → ℕ → Type 0
HasWord words i width = slice_get (map width_of words) i ≡ Some width

-- what a node of a width reads is given, as a word of that width
abbrev pub IsGiven : Given → ℕ → Operation → Type 0
IsGiven g width (Const word) = Unit {0}
IsGiven g width (Input input) = HasWord g.inputs input width
IsGiven g width (State state) = HasWord g.states state width
IsGiven g width (Free place computed) = (place < length g.freed) × HasWord g.chosen place width
IsGiven g width (Unary op arg) = Unit {0}
IsGiven g width (Binary op left right) = Unit {0}
IsGiven g width (Choose test one other) = Unit {0}
IsGiven g width (Join high low) = Unit {0}
IsGiven g width (Repeat times part) = Unit {0}
IsGiven g width (Resize arg) = Unit {0}
IsGiven g width (Slice word from) = Unit {0}
IsGiven g width (Pick word select) = Unit {0}
IsGiven g width (Is index value) = Unit {0}
IsGiven g width (Put old from size word offset) = Unit {0}
IsGiven g width (PutPick old select word offset) = Unit {0}
IsGiven g width (Blend mask one other) = Unit {0}

-- all that the nodes read is given
abbrev pub AreGiven : Given → List WordNode → Type 0
AreGiven g nodes = (i : ℕ) (node : WordNode) → slice_get nodes i ≡ Some node → IsGiven g node.width node.operation
