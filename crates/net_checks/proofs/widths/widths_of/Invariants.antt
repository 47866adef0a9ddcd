use Rattle.std.proofs.Common.{◌≡◌, take}
use Rattle.word_net.specs.Fits.{widths_of}
use Rattle.net_checks.proofs.widths.widths_of.Given as goal

abbrev pub invariant-loop-node : goal.invariant-loop-node
invariant-loop-node l = l.widths.items ≡ widths_of (take l.node-index l.nodes)
