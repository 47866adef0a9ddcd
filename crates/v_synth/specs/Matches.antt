-- A net's outputs and next states beside those of a cycle.
use Rattle.std.specs.Prelude.{ℕ, ◌≡◌, List, map, get_or}
use Rattle.loc_base.specs.declared.bits.Bits.{Bits}
use Rattle.design_core.specs.declared.design.Design.{Design}
use Rattle.loc_base.specs.Bits.{value_of, width_of}
use Rattle.design_core.specs.Valuation.{Valuation, width_at}
use Rattle.design_core.specs.After.{Choice}
use Rattle.word_net.specs.Nets.{Net}
use Rattle.word_net.specs.Values.{net_values}
use Rattle.synth_parts.specs.Meaning.{word_of}
use Rattle.v_synth.specs.Net.{net_of, states_of, cycle_source}

-- an order of a design's drivers, what a cycle begins with, its values and its next states
pub record OneNet : Type 0 where
  pub design : Design
  pub order : List ℕ
  pub samples : List Bits
  pub state : Valuation
  pub choice : Choice
  pub values : Valuation
  pub next : Valuation

-- the value of a node of the net in that cycle
abbrev pub node_of : OneNet → ℕ → ℕ
node_of c n = get_or (net_values (cycle_source c.design c.samples c.state c.choice) (net_of c.design c.order).nodes) n 0

-- the net's outputs and next states are those of the cycle
pub record Matches (c : OneNet) : Type 0 where
  pub outputs : map (node_of c) (net_of c.design c.order).outputs ≡ map (word_of c.design.signals.items c.values) c.design.outputs.items
  pub next : map (node_of c) (net_of c.design c.order).next ≡ map (word_of c.design.signals.items c.next) (states_of c.design)

-- the value of a node of a net in that cycle
abbrev pub value_in : OneNet → Net → ℕ → ℕ
value_in c net n = get_or (net_values (cycle_source c.design c.samples c.state c.choice) net.nodes) n 0

-- a net is that of a design whose drivers stand in an order
pub record IsNetOf (d : Design) (order : List ℕ) (net : Net) : Type 0 where
  pub nodes : net.nodes ≡ (net_of d order).nodes
  pub outputs : net.outputs ≡ (net_of d order).outputs
  pub next : net.next ≡ (net_of d order).next
  pub start : map value_of net.start ≡ (net_of d order).start
  -- the word of a state before the first cycle has its signal's width
  pub widths : map width_of net.start ≡ map (width_at d.signals.items) (states_of d)

-- the outputs and next states of a net are those of the cycle
pub record MeansCycle (c : OneNet) (net : Net) : Type 0 where
  pub outputs : map (value_in c net) net.outputs ≡ map (word_of c.design.signals.items c.values) c.design.outputs.items
  pub next : map (value_in c net) net.next ≡ map (word_of c.design.signals.items c.next) (states_of c.design)
