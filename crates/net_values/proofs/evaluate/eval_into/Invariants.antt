use Rattle.std.proofs.Common.{◌≡◌, length}
use Rattle.net_values.proofs.Nodes.{ValuesSoFar}
use Rattle.net_values.proofs.evaluate.eval_into.Given as goal

abbrev pub invariant-loop-i : goal.invariant-loop-i
invariant-loop-i l = record {
  long : length l.out ≡ length l.initial.out;
  rest : ValuesSoFar (record { states = l.state; inputs = l.inputs; freed = l.freed; chosen = l.choice }) l.nodes l.out l.i;
}
