use Rattle.std.proofs.Common.{take}
use Rattle.net_checks.specs.Reads.{FreesNot}
use Rattle.net_checks.proofs.checked.frees.Given as goal

abbrev pub invariant-loop-i : goal.invariant-loop-i
invariant-loop-i l = FreesNot (take l.i l.nodes) l.place
