use Rattle.std.proofs.Common.{◌≡◌, ◌+◌, drop}
use Rattle.std.specs.Prelude.{nat_eq}
use Rattle.std.specs.List.{position_or_len}
use Rattle.std.specs.Cmp.Lexicographic.{pointwise}
use Rattle.design_core.specs.declared.signal.Signal.{Signal}
use Rattle.vcd_waves.specs.Variables.{clock_signal}
use Rattle.vcd_waves.proofs.variable.clock_signal.Given as goal

abbrev pub invariant-loop-number : goal.invariant-loop-number
invariant-loop-number l =
    clock_signal l.signals l.name ≡ l.number + position_or_len (λ (signal : Signal). pointwise nat_eq signal.path l.name) (drop l.number l.signals)
