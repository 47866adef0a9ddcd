use Rattle.std.proofs.Common.{◌≡◌, ◌++◌}
use Rattle.vcd_words.specs.Lines.{text_of}
use Rattle.made_input.specs.Made.{lines_before}
use Rattle.made_input.proofs.trace.write_cycles.Given as goal

abbrev pub invariant-loop-cycle : goal.invariant-loop-cycle
invariant-loop-cycle l = l.text ≡ l.fn.text ++ text_of (lines_before l.number l.cycle)
