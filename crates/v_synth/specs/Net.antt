-- The net of a design: inputs and registers, resets, drivers in an order, clocked blocks; its outputs, next states and the
-- states before the first cycle.
use Rattle.std.specs.Prelude.{ℕ, zero, suc, ◌+◌, if◌then◌else◌, List, [], ◌∷◌, ◌++◌, length, map, get_or}
use Rattle.loc_base.specs.declared.bits.Bits.{Bits}
use Rattle.design_core.specs.declared.design.Design.{Design}
use Rattle.design_core.specs.Valuation.{Valuation, number, width_at}
use Rattle.design_core.specs.After.{Choice}
use Rattle.design_core.specs.Cycle.{sampled}
use Rattle.design_core.specs.Run.{start_state}
use Rattle.word_net.specs.declared.node.WordNode.{WordNode}
use Rattle.word_net.specs.Values.{Source}
use Rattle.synth_parts.specs.Store.{Nodes, nodes_made}
use Rattle.synth_parts.specs.Driver.{drivers_made}
use Rattle.v_synth.specs.Clocked.{has_state, begun_made, masked_made, resets_made, bodies_made}

-- the signals that have a state, from one on among so many
abbrev pub states_from : Design → ℕ → ℕ → List ℕ
states_from d s zero = []
states_from d s (suc more) = if has_state d s then s ∷ states_from d (s + 1) more else states_from d (s + 1) more

abbrev pub states_of : Design → List ℕ
states_of d = states_from d 0 (length d.signals.items)

-- the next states of signals, behind those that are there: bits that are no registers have 0
unfoldable pub nexts_made : Design → List ℕ → List WordNode → List ℕ → List ℕ → Nodes
nexts_made d nodes_of nodes next [] = nodes_made nodes next
nexts_made d nodes_of nodes next (s ∷ rest) =
    let m = masked_made d nodes s (get_or nodes_of s 0) in nexts_made d nodes_of m.nodes (next ++ m.node ∷ []) rest

-- a net, its start values as numbers
pub record NetOf : Type 0 where
  pub nodes : List WordNode
  pub outputs : List ℕ
  pub next : List ℕ
  pub start : List ℕ

-- the net of a design whose drivers stand in an order
unfoldable pub net_of : Design → List ℕ → NetOf
net_of d order =
    let first = begun_made d in
    let registers = resets_made d first.each first.nodes first.each d.clocked.items in
    let values = drivers_made d.signals.items d.drivers.items registers.nodes registers.each order in
    let left = bodies_made d values.each values.nodes values.each d.clocked.items in
    let next = nexts_made d left.each left.nodes [] (states_of d) in
    record {
      nodes = next.nodes;
      outputs = map (λ s. get_or values.each s 0) d.outputs.items;
      next = next.each;
      start = map (λ s. number (width_at d.signals.items s) (start_state d s)) (states_of d);
    }

-- the source of a cycle: the samples of the inputs and the states of the registers, as numbers of their signals' widths
abbrev pub cycle_source : Design → List Bits → Valuation → Choice → Source
cycle_source d samples state choice = record {
  inputs = λ i. let s = get_or d.inputs.items i 0 in number (width_at d.signals.items s) (sampled d.inputs.items samples s);
  states = λ j. let s = get_or (states_of d) j 0 in number (width_at d.signals.items s) (state s);
  choice = choice;
}
