use Rattle.std.proofs.Common.{take}
use Rattle.net_checks.specs.Reads.{AreHeld}
use Rattle.net_checks.proofs.checked.are_held.Given as goal

abbrev pub invariant-loop-i : goal.invariant-loop-i
invariant-loop-i l = AreHeld l.start l.next.nodes.now l.next.widths.now (take l.i l.nodes)
