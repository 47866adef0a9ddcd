use Rattle.std.proofs.Common.{◌+◌, ◌*◌, ◌++◌, ◌∙◌, sym, ap}
use Rattle.std.specs.Prelude.{codes}
use Rattle.vcd_words.specs.Lines.{line_text, text_of}
use Rattle.vcd_waves.specs.Lines.{time_line}
use Rattle.made_input.specs.Made.{port_lines}
use Rattle.made_input.proofs.Pieces.{appended5, cycle_text}
use Rattle.made_input.proofs.trace.write_cycle.Goals as goal

pub returns : goal.returns
returns c =
    let n = c.args.number in
    let t = c.args.cycle in
    appended5 _ _ _ _ _ _ (line_text (time_line (10 * t))) (codes "0!\n") (text_of (port_lines n t))
    (line_text (time_line (10 * t + 5))) (codes "1!\n")
    c.in_ok-write_time.ensures c.in_ok-append.ensures.ok c.in_ok-write_ports.ensures c.in_ok-write_time-2.ensures
    c.in_ok-append-2.ensures.ok
    ∙ ap (λ l. c.args.text.now ++ l) (sym (cycle_text n t))
