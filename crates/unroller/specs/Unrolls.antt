-- The unrolled form of a circuit: the cycles of all traces, one after another, over one list of definitions. Each definition
-- has a variable: those of the suspects and of the counters come first.
use Rattle.std.specs.Prelude.{ℕ, zero, suc, ◌+◌, ◌-◌, ◌*◌, ◌/◌, ◌<◌, ◌^◌, ◌≡◌, ◌==◌, Bool, List, [], ◌∷◌, ◌++◌, map, length, All}
use Rattle.std.specs.List.{list_any}
use Rattle.loc_base.specs.declared.bits.Bits.{Bits}
use Rattle.loc_base.specs.Bits.{width_of, value_of}
use Rattle.gate_base.specs.declared.literal.Literal.{Literal}
use Rattle.gate_base.specs.declared.node.Node.{Node}
use Rattle.design_core.specs.declared.trace.Checked.{Checked}
use Rattle.design_core.specs.declared.trace.Trace.{Trace}
use Rattle.design_core.specs.Given.{row}
use Rattle.suspect_map.specs.declared.group.Group.{Group}
use Rattle.card_counter.specs.Places.{starts}
use Rattle.bit_circuit.specs.Wires.{constant_bits}
use Rattle.bit_circuit.specs.Circuits.{BitNet}
use Rattle.unroller.specs.Cycles.{Frame, words_translated, nodes_unrolled, frees_at, free_bits}
use Rattle.unroller.specs.declared.free_bit.FreeBit.{FreeBit}

-- a place is in one of the groups
abbrev pub is_grouped : List Group → ℕ → Bool
is_grouped groups place = list_any (λ group. list_any (λ p. p == place) group.places) groups

-- the first variable of a definition: those of the suspects and of their counters come before it
abbrev pub base_of : List Group → ℕ → ℕ
base_of groups k = length groups + starts k (length groups + 1) + 1

-- what contracts see of an unrolled form
pub record Unrolling : Type 0 where
  -- the variable of the first definition
  pub base : ℕ
  -- how many outputs there are in each cycle
  pub each : ℕ
  -- the free bits of the circuit, in the order of its nodes
  pub bits : List FreeBit
  -- ANDs and bits of places, in the order of their variables
  pub definitions : List Node
  -- for each cycle of each trace, how many definitions there are once those of the cycle stand
  pub ends : List ℕ
  -- for each cycle and output, the literals of its bits
  pub outputs : List (List Literal)
  -- for each cycle and output, what it is expected to be
  pub expected : List Checked
  -- for each cycle, the literals of these bits
  pub frees : List (List Literal)
  -- for each trace, the number of its first cycle among all cycles
  pub firsts : List ℕ

-- the literals of a number of a width
abbrev pub constant_word : Bits → List Literal
constant_word word = constant_bits (width_of word) (value_of word)

-- the number of words of inputs in each cycle
abbrev pub inputs_in : Trace → ℕ
inputs_in trace = length trace.inputs.items / trace.cycles

-- the words of the inputs in a cycle
abbrev pub samples_in : Trace → ℕ → List Bits
samples_in trace t = row trace.inputs.items (inputs_in trace) t

-- what the outputs are expected to be in a cycle, so many outputs there being
abbrev pub expected_in : ℕ → Trace → ℕ → List Checked
expected_in outputs trace t = row trace.expected.items outputs t

-- the form behind a cycle whose circuit's nodes have these literals
abbrev pub with_cycle : BitNet → Unrolling → List Checked → List Node → List Literal → Unrolling
with_cycle circuit u expected nodes now = record u {
  definitions = nodes;
  ends = u.ends ++ length nodes ∷ [];
  outputs = u.outputs ++ words_translated now circuit.outputs;
  expected = u.expected ++ expected;
  frees = u.frees ++ frees_at circuit.nodes now ∷ [];
}

-- so many cycles of a trace from one on, from the literals of the states there
unfoldable pub cycles_unrolled : BitNet → (ℕ → Bool) → Trace → Unrolling → List (List Literal) → ℕ → ℕ → Unrolling
cycles_unrolled circuit grouped trace u states t zero = u
cycles_unrolled circuit grouped trace u states t (suc count) =
    let frame : Frame = record { moment = length u.ends; samples = samples_in trace t; states = states; grouped = grouped } in
    let m = nodes_unrolled frame u.definitions [] circuit.nodes in
    cycles_unrolled circuit grouped trace (with_cycle circuit u (expected_in (length circuit.outputs) trace t) m.nodes m.bits)
    (words_translated m.bits circuit.next) (t + 1) count

-- the form before a trace
abbrev pub with_trace : Unrolling → Unrolling
with_trace u = record u { firsts = u.firsts ++ length u.ends ∷ [] }

-- the traces one after another, each from the states before the first cycle
unfoldable pub traces_unrolled : BitNet → (ℕ → Bool) → Unrolling → List Trace → Unrolling
traces_unrolled circuit grouped u [] = u
traces_unrolled circuit grouped u (trace ∷ traces) =
    traces_unrolled circuit grouped (cycles_unrolled circuit grouped trace (with_trace u) (map constant_word circuit.start) 0 trace.cycles) traces

-- the form before all traces, whose first definition is to have this variable
abbrev pub unrolled_before : BitNet → ℕ → Unrolling
unrolled_before circuit base = record {
  base = base;
  each = length circuit.outputs;
  bits = free_bits circuit.nodes;
  definitions = [];
  ends = [];
  outputs = [];
  expected = [];
  frees = [];
  firsts = [];
}

-- the unrolled form of a circuit for some traces, where sets of at most k groups are asked for
unfoldable pub unrolled_of : BitNet → List Trace → List Group → ℕ → Unrolling
unrolled_of circuit traces groups k = traces_unrolled circuit (is_grouped groups) (unrolled_before circuit (base_of groups k)) traces

-- how many variables there are
abbrev pub variables_of : Unrolling → ℕ
variables_of u = u.base - 1 + length u.definitions

-- a trace has its words and what is expected in each cycle
pub record IsTraceOf (outputs : ℕ) (trace : Trace) : Type 0 where
  pub inputs : length trace.inputs.items ≡ trace.cycles * inputs_in trace
  pub expected : length trace.expected.items ≡ trace.cycles * outputs

-- the cycles of all traces
abbrev pub cycles_of : List Trace → ℕ
cycles_of [] = 0
cycles_of (trace ∷ traces) = trace.cycles + cycles_of traces

-- each trace has its entries in each cycle, and the cycles of all traces, behind some, are fewer than 2^32
pub record AreTraces (circuit : BitNet) (traces : List Trace) (before : ℕ) : Type 0 where
  pub each : All (IsTraceOf (length circuit.outputs)) traces
  pub few : before + cycles_of traces < 2 ^ 32
