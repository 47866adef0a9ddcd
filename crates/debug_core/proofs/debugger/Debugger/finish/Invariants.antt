use Rattle.std.proofs.Common.{◌-◌}
use Rattle.debug_core.proofs.Finishing.{IsFinishing}
use Rattle.debug_core.proofs.debugger.Debugger.finish.Given as goal

abbrev pub invariant-loop : goal.invariant-loop
invariant-loop l = IsFinishing l.fn.self l.self (l.end - l.counter)
