use Rattle.std.proofs.Common.{◌≡◌, drop}
use Rattle.vcd_reading.specs.Reals.{drop_digits}
use Rattle.vcd_reading.proofs.reals.drop_digits.Given as goal

abbrev pub invariant-loop-i : goal.invariant-loop-i
invariant-loop-i l = drop_digits (drop l.i l.bytes) ≡ drop_digits l.bytes
