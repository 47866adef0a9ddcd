-- How the fields of the work stand for what its contracts see; only private contracts cite it.
use Rattle.std.specs.Prelude.{false, if◌then◌else◌, List, [], ◌∷◌, get_or}
use Rattle.gate_base.specs.declared.node.Node.{Node}
use Rattle.gate_base.specs.declared.literal.Literal.{Literal}
use Rattle.gate_base.specs.Nodes.{Made, Word, free_made, made}
use Rattle.bit_circuit.specs.Circuits.{BitNet}
use Rattle.unroller.specs.declared.free_bit.FreeBit.{FreeBit}
use Rattle.unroller.specs.declared.frame.Frame.{Frame as Given}
use Rattle.unroller.specs.declared.work.Work.{Work}
use Rattle.unroller.specs.Cycles.{Frame, is_free, nodes_unrolled}
use Rattle.unroller.specs.Unrolls.{Unrolling}

abbrev pub frame_of : Given → Frame
frame_of f = record { moment = f.moment; samples = f.samples; states = f.states; grouped = λ place. get_or f.grouped place false }

abbrev pub unrolling_of : Work → Unrolling
unrolling_of w = record {
  base = w.base;
  each = w.each;
  bits = w.bits;
  definitions = w.maker.nodes;
  ends = w.ends;
  outputs = w.outputs;
  expected = w.expected;
  frees = w.frees;
  firsts = w.firsts;
}

-- the literal of a bit of a place: a new node where its place is in a group, else what is computed
abbrev pub free_unrolled : Frame → List Node → FreeBit → Literal → Made
free_unrolled frame nodes free computed =
    if frame.grouped free.place then free_made nodes frame.moment free.place free.bit computed else made nodes computed

-- the literal of a node, where it is a bit of a place
abbrev pub free_literal : Node → Literal → List Literal
free_literal node l = if is_free node then l ∷ [] else []

-- the definitions behind a cycle, and the literals of the circuit's nodes in it
abbrev pub cycle_of : Given → List Node → BitNet → Word
cycle_of frame nodes circuit = nodes_unrolled (frame_of frame) nodes [] circuit.nodes
