use Rattle.std.proofs.Common.{◌+◌, ◌*◌, ◌++◌, ◌∙◌, sym, ap, rules}
use Rattle.vcd_words.specs.Lines.{line_text, text_of}
use Rattle.vcd_waves.specs.Values.{row_of}
use Rattle.vcd_waves.specs.Lines.{time_line, change_lines, clock_shown, shown_in}
use Rattle.vcd_waves.proofs.LineSteps.{appended5, cycle_text}
use Rattle.vcd_waves.proofs.cycles.write_stamps.Goals as goal

pub returns : goal.returns
returns c =
    appended5 c.args.text.now c.write_time.new.text c.write_changes.new.text c.write_changes-2.new.text c.write_time-2.new.text c.write_changes-3.new.text
    (line_text (time_line (10 * c.args.t))) (text_of (change_lines (clock_shown 0) 0 c.args.variables.now))
    (text_of (change_lines (shown_in (row_of c.args.row.now)) 0 c.args.variables.now))
    (line_text (time_line (10 * c.args.t + 5))) (text_of (change_lines (clock_shown 1) 0 c.args.variables.now))
    (search rules) (search rules) (search rules) (search rules) (search rules)
    ∙ ap (λ l. c.args.text.now ++ l) (sym (cycle_text c.args.variables.now (row_of c.args.row.now) c.args.t))
