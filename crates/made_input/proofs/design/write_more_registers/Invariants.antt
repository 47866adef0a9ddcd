use Rattle.std.proofs.Common.{◌≡◌, ◌++◌}
use Rattle.made_input.specs.Made.{more_registers}
use Rattle.made_input.proofs.design.write_more_registers.Given as goal

abbrev pub invariant-loop-done : goal.invariant-loop-done
invariant-loop-done l = l.text ≡ l.fn.text ++ more_registers l.done
