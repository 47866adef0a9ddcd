use Rattle.std.proofs.Common.{◌≡◌, ◌++◌, take, drop}
use Rattle.vcd_reading.specs.Header.{up_to_bracket}
use Rattle.vcd_reading.proofs.header.up_to_bracket.Given as goal

abbrev pub invariant-loop-i : goal.invariant-loop-i
invariant-loop-i l = take l.i l.word ++ up_to_bracket (drop l.i l.word) ≡ up_to_bracket l.word
