use Rattle.std.proofs.Common.{◌≡◌, take}
use Rattle.v_synth.proofs.assigned.numbers.Given as goal

abbrev pub invariant-loop-i : goal.invariant-loop-i
invariant-loop-i l = l.numbers.items ≡ take l.i l.signals
