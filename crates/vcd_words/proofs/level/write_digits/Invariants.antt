use Rattle.std.proofs.Common.{◌≡◌, ◌-◌, ◌++◌}
use Rattle.vcd_words.specs.Levels.{digits_of}
use Rattle.vcd_words.proofs.level.write_digits.Given as goal

abbrev pub invariant-loop-done : goal.invariant-loop-done
invariant-loop-done l = l.text ++ digits_of (l.width - l.done) l.bits l.mask ≡ l.fn.text ++ digits_of l.width l.bits l.mask
