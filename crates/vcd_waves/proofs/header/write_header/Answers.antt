use Rattle.std.proofs.Common.{◌++◌, ◌∙◌, length, sym, ap}
use Rattle.std.specs.Prelude.{codes}
use Rattle.vcd_words.specs.Lines.{line_text, text_of}
use Rattle.vcd_waves.specs.Variables.{clock_of}
use Rattle.vcd_waves.specs.Lines.{timescale_line, scope_line, variable_lines, freed_lines}
use Rattle.vcd_waves.proofs.LineSteps.{appended5, header_text}
use Rattle.vcd_waves.proofs.header.write_header.Goals as goal

pub returns : goal.returns
returns c =
    appended5 c.args.text.now c.append.new.self c.write_scope.new.text c.write_variables.new.text c.write_freed.new.text c.append-2.new.self
    (line_text timescale_line) (line_text (scope_line c.args.wave.now.top.now))
    (text_of (variable_lines c.args.wave.now.design.now (clock_of c.args.wave.now) 0 c.args.ports.now))
    (text_of (freed_lines c.args.wave.now.design.now (clock_of c.args.wave.now) (length c.args.ports.now) c.args.freed.now))
    (codes "$upscope $end\n$enddefinitions $end\n")
    c.in_ok-append.ensures.ok
    (c.in_ok-write_scope.ensures ∙ ap (λ name. c.append.new.self ++ line_text (scope_line name)) c.as_bytes.ensures.same)
    c.in_ok-write_variables.ensures c.in_ok-write_freed.ensures
    c.in_ok-append-2.ensures.ok
    ∙ ap (λ l. c.args.text.now ++ l) (sym (header_text c.args.wave.now.top.now c.args.wave.now.design.now (clock_of c.args.wave.now) c.args.ports.now c.args.freed.now))
