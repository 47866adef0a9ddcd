use Rattle.std.proofs.Common.{◌≡◌, ◌+◌, drop}
use Rattle.std.specs.List.{position_or_len}
use Rattle.design_core.specs.declared.signal.Signal.{Signal}
use Rattle.vcd_reading.specs.Commands.{same_bytes}
use Rattle.vcd_reading.proofs.ports.signal_named.Given as goal

abbrev pub invariant-loop-i : goal.invariant-loop-i
invariant-loop-i l =
    l.i + position_or_len (λ (signal : Signal). same_bytes signal.path l.name) (drop l.i l.signals)
    ≡ position_or_len (λ (signal : Signal). same_bytes signal.path l.name) l.signals
