use Rattle.std.proofs.Common.{◌≡◌, ◌++◌}
use Rattle.vcd_words.specs.Lines.{text_of}
use Rattle.vcd_waves.specs.Lines.{lines_before}
use Rattle.vcd_waves.proofs.cycles.write_cycles.Given as goal

abbrev pub invariant-loop-t : goal.invariant-loop-t
invariant-loop-t l = l.text ≡ l.fn.text ++ text_of (lines_before l.wave l.variables l.t)
