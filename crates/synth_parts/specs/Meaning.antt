-- What it means that a map shows a valuation: the node of each signal stands for the signal's bits.
use Rattle.std.specs.Prelude.{ℕ, ◌≡◌, ◌<◌, List, length, get_or}
use Rattle.design_core.specs.declared.signal.Signal.{Signal}
use Rattle.design_core.specs.Valuation.{Valuation, number, width_at}
use Rattle.design_core.specs.After.{Updates}
use Rattle.word_net.specs.declared.node.WordNode.{WordNode}
use Rattle.word_net.specs.Values.{Source}
use Rattle.word_net.specs.Build.{Means, Grown}
use Rattle.synth_parts.specs.Store.{Nodes}
use Rattle.synth_parts.specs.Statement.{Maps}

-- the number that the bits of a signal mean
abbrev pub word_of : List Signal → Valuation → ℕ → ℕ
word_of signals V s = number (width_at signals s) (V s)

-- each signal has a node, and it stands for the signal's bits
pub record Shows (e : Source) (signals : List Signal) (nodes : List WordNode) (nodes_of : List ℕ) (V : Valuation) : Type 0 where
  pub each : length nodes_of ≡ length signals
  pub are : (s : ℕ) → s < length signals → Means e nodes (get_or nodes_of s 0) (width_at signals s) (word_of signals V s)

-- the nodes grow, and the new map shows that valuation
pub record ShowsIn (e : Source) (signals : List Signal) (nodes : List WordNode) (m : Nodes) (V : Valuation) : Type 0 where
  pub grown : Grown nodes m.nodes
  pub shows : Shows e signals m.nodes m.each V

-- both maps show those updates
pub record ShowsBoth (e : Source) (signals : List Signal) (m : Maps) (u : Updates) : Type 0 where
  pub now : Shows e signals m.nodes m.now u.now
  pub later : Shows e signals m.nodes m.later u.later

-- the nodes grow, and the new maps show those updates
pub record ShowsBothIn (e : Source) (signals : List Signal) (nodes : List WordNode) (m : Maps) (u : Updates) : Type 0 where
  pub grown : Grown nodes m.nodes
  pub shows : ShowsBoth e signals m u
