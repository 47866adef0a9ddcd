use Rattle.std.proofs.Common.{◌++◌, ◌∙◌, ap}
use Rattle.vcd_words.specs.Lines.{text_of}
use Rattle.vcd_waves.specs.Lines.{shown_lines, change_lines}
use Rattle.vcd_waves.specs.Values.{shown_by}
use Rattle.vcd_waves.proofs.LineSteps.{change_next, change_last}
use Rattle.vcd_waves.proofs.values.write_changes.Goals as goal

pub loop-number-preserved : goal.loop-number-preserved
loop-number-preserved c =
    change_next (shown_by c.args.changes.now) c.args.variables.now c.loop-number.number c.variable_at-variable.result
    c.loop-number.text c.write_shown.new.text (c.args.text.now ++ text_of (change_lines (shown_by c.args.changes.now) 0 c.args.variables.now))
    c.variable_at-variable.ensures
    (c.in_ok-write_shown.ensures ∙ ap (λ s. c.loop-number.text ++ text_of (shown_lines c.loop-number.number s)) c.value_by-value.ensures)
    c.loop-number.invariant

pub returns : goal.returns
returns c =
    change_last (shown_by c.args.changes.now) c.args.variables.now c.loop-number.number c.loop-number.text
    (c.args.text.now ++ text_of (change_lines (shown_by c.args.changes.now) 0 c.args.variables.now)) c.loop-number-test.false c.loop-number.invariant
