use Rattle.std.proofs.Common.{◌≡◌}
use Rattle.bit_circuit.proofs.ExpandSteps.{Reached}
use Rattle.bit_circuit.proofs.expand.expand.Given as goal

abbrev pub invariant-loop-node : goal.invariant-loop-node
invariant-loop-node l = record {
  limit : l.maker.maker.limit ≡ 4000000;
  reached : Reached l.nodes l.node-index l.maker.maker.nodes l.words;
}
