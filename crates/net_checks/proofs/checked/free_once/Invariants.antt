use Rattle.std.proofs.Common.{take}
use Rattle.net_checks.specs.Reads.{FreeOnce}
use Rattle.net_checks.proofs.checked.free_once.Given as goal

abbrev pub invariant-loop-i : goal.invariant-loop-i
invariant-loop-i l = FreeOnce (take l.i l.nodes)
