-- How nodes are made, and what it means that one stands for a word.
use Rattle.std.specs.Prelude.{ℕ, ◌≡◌, List, [], ◌∷◌, ◌++◌, length, get_or, slice_get, Some}
use Rattle.word_net.specs.declared.node.Operation.{Operation}
use Rattle.word_net.specs.declared.node.WordNode.{WordNode}
use Rattle.word_net.specs.Values.{Source, values}
use Rattle.word_net.specs.Fits.{AllFit, widths_of}

-- the nodes, and the number of one of them
pub record Made : Type 0 where
  pub nodes : List WordNode
  pub node : ℕ

abbrev pub made : List WordNode → ℕ → Made
made nodes node = record { nodes = nodes; node = node }

-- a new node
unfoldable pub pushed : List WordNode → ℕ → Operation → Made
pushed nodes width operation = made (nodes ++ record { width = width; operation = operation } ∷ []) (length nodes)

-- the node is there, has that width, and has that value
pub record Means (e : Source) (nodes : List WordNode) (node width value : ℕ) : Type 0 where
  pub there : slice_get (widths_of nodes) node ≡ Some width
  pub is : get_or (values e [] nodes) node 0 ≡ value

-- the nodes stay, more follow, and all of them fit still
pub record Grown (before after : List WordNode) : Type 0 where
  pub more : List WordNode
  pub is : after ≡ before ++ more
  pub fit : AllFit [] before → AllFit [] after

-- the nodes grow, and the new one has that width and that value
pub record Gives (e : Source) (nodes : List WordNode) (m : Made) (width value : ℕ) : Type 0 where
  pub grown : Grown nodes m.nodes
  pub means : Means e m.nodes m.node width value
