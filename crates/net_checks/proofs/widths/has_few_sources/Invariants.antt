use Rattle.std.proofs.Common.{◌≡◌, ◌≤◌, ◌^◌, take}
use Rattle.word_net.specs.Nets.{source_bits}
use Rattle.net_checks.proofs.widths.has_few_sources.Given as goal

abbrev pub invariant-loop-node : goal.invariant-loop-node
invariant-loop-node l = record {
  is : l.bits ≡ source_bits (take l.node-index l.nodes);
  few : l.bits ≤ 2 ^ 31;
}
