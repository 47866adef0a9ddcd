use Rattle.std.proofs.Common.{◌≡◌, ◌+◌, ◌++◌, drop}
use Rattle.vcd_words.specs.Lines.{text_of}
use Rattle.vcd_waves.specs.Variables.{clock_of}
use Rattle.vcd_waves.specs.Lines.{variable_lines}
use Rattle.vcd_waves.proofs.header.write_variables.Given as goal

abbrev pub invariant-loop-place : goal.invariant-loop-place
invariant-loop-place l =
    l.text ++ text_of (variable_lines l.wave.design.now (clock_of l.wave) (l.first + l.place) (drop l.place l.variables))
    ≡ l.fn.text ++ text_of (variable_lines l.wave.design.now (clock_of l.wave) l.first l.variables)
