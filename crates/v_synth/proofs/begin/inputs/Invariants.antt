use Rattle.std.proofs.Common.{◌≡◌, drop}
use Rattle.v_synth.specs.Clocked.{inputs_made}
use Rattle.v_synth.proofs.begin.inputs.Given as goal

abbrev pub invariant-loop-place : goal.invariant-loop-place
invariant-loop-place l = inputs_made l.design l.fn.nodes 0 l.design.inputs.items ≡ inputs_made l.design l.nodes l.place (drop l.place l.design.inputs.items)
