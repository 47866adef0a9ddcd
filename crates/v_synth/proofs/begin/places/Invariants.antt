use Rattle.std.proofs.Common.{◌≤◌, drop, length}
use Rattle.v_synth.specs.Rows.{ArePlaces}
use Rattle.v_synth.proofs.begin.places.Given as goal

abbrev pub invariant-loop-left : goal.invariant-loop-left
invariant-loop-left l = record {
  most : l.left ≤ length l.inputs;
  rest : ArePlaces l.left (drop l.left l.inputs) l.count l.places;
}

abbrev pub decreases-loop-left : goal.decreases-loop-left
decreases-loop-left l = l.left
