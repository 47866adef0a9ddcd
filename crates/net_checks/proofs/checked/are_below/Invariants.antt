use Rattle.std.proofs.Common.{take}
use Rattle.net_checks.specs.Reads.{AreNumbers}
use Rattle.net_checks.proofs.checked.are_below.Given as goal

abbrev pub invariant-loop-number : goal.invariant-loop-number
invariant-loop-number l = AreNumbers l.bound (take l.number-index l.numbers)
