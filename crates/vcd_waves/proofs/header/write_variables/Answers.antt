use Rattle.std.proofs.Common.{◌++◌}
use Rattle.vcd_words.specs.Lines.{text_of}
use Rattle.vcd_waves.specs.Variables.{clock_of}
use Rattle.vcd_waves.specs.Lines.{variable_lines}
use Rattle.vcd_waves.proofs.LineSteps.{variable_next, variable_last}
use Rattle.vcd_waves.proofs.header.write_variables.Goals as goal

pub loop-place-preserved : goal.loop-place-preserved
loop-place-preserved c =
    variable_next c.args.wave.now.design.now (clock_of c.args.wave.now) c.args.first c.args.variables.now c.loop-place.place c.variable_at-variable.result
    c.loop-place.text c.write_variable.new.text
    (c.args.text.now ++ text_of (variable_lines c.args.wave.now.design.now (clock_of c.args.wave.now) c.args.first c.args.variables.now))
    c.variable_at-variable.ensures c.in_ok-write_variable.ensures c.loop-place.invariant

pub returns : goal.returns
returns c =
    variable_last c.args.wave.now.design.now (clock_of c.args.wave.now) c.args.first c.args.variables.now c.loop-place.place c.loop-place.text
    (c.args.text.now ++ text_of (variable_lines c.args.wave.now.design.now (clock_of c.args.wave.now) c.args.first c.args.variables.now))
    c.loop-place-test.false c.loop-place.invariant
