use Rattle.std.proofs.Common.{◌≡◌}
use Rattle.change_lines.specs.Operands.{named_below}
use Rattle.change_lines.proofs.operands.named_below.Given as goal

abbrev pub invariant-loop-signal : goal.invariant-loop-signal
invariant-loop-signal l = l.found.items ≡ named_below l.signal l.e
