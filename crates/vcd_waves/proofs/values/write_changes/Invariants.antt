use Rattle.std.proofs.Common.{◌≡◌, ◌++◌, drop}
use Rattle.vcd_words.specs.Lines.{text_of}
use Rattle.vcd_waves.specs.Lines.{change_lines}
use Rattle.vcd_waves.specs.Values.{shown_by}
use Rattle.vcd_waves.proofs.values.write_changes.Given as goal

abbrev pub invariant-loop-number : goal.invariant-loop-number
invariant-loop-number l =
    l.text ++ text_of (change_lines (shown_by l.changes) l.number (drop l.number l.variables))
    ≡ l.fn.text ++ text_of (change_lines (shown_by l.changes) 0 l.variables)
