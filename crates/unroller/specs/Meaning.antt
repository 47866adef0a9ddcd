-- What the literals of a cycle mean: the values of the circuit's nodes for the samples and the states of that cycle.
use Rattle.std.specs.Prelude.{ℕ, ◌≡◌, Bool, false, List, []}
use Rattle.gate_base.specs.declared.literal.Literal.{Literal}
use Rattle.gate_base.specs.declared.node.Node.{Node}
use Rattle.gate_base.specs.Nodes.{Word}
use Rattle.gate_base.specs.Meaning.{Source, Means, bit_value}
use Rattle.unroller.specs.Cycles.{Frame, sampled, held, nodes_unrolled}

-- what the circuit is given in a cycle: the samples, bits of states, and the choices of that cycle
abbrev pub cycle_source : Source → Frame → (ℕ → ℕ → Bool) → Source
cycle_source e frame state = record {
  inputs = sampled frame.samples;
  states = state;
  frees = e.frees;
  chosen = λ moment place bit. e.chosen frame.moment place bit;
}

-- a cycle: what the definitions are given, the definitions before it, the circuit's nodes, and the bits of the states
pub record CycleGiven : Type 0 where
  pub source : Source
  pub frame : Frame
  pub definitions : List Node
  pub circuit : List Node
  pub state : ℕ → ℕ → Bool

-- the literals of the states mean these bits
abbrev pub AreHeld : Source → List Node → List (List Literal) → (ℕ → ℕ → Bool) → Type 0
AreHeld e nodes states state = (s b : ℕ) → Means e nodes (held states s b) (state s b)

-- a place that is in no group is free nowhere
abbrev pub FreesGrouped : Source → (ℕ → Bool) → Type 0
FreesGrouped e grouped = (place : ℕ) → grouped place ≡ false → e.frees place ≡ false

-- the definitions and the literals behind the cycle
abbrev pub cycle_made : CycleGiven → Word
cycle_made of = nodes_unrolled of.frame of.definitions [] of.circuit

-- the value of a literal of the circuit in the cycle
abbrev pub cycle_value : CycleGiven → Literal → Bool
cycle_value of l = bit_value (cycle_source of.source of.frame of.state) of.circuit l
