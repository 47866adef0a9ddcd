use Rattle.std.proofs.Common.{◌≡◌, map, drop}
use Rattle.bind_signals.specs.LoopNames.{listed, without}
use Rattle.bind_signals.proofs.looped.add_others.Given as goal

abbrev pub invariant-loop-variable : goal.invariant-loop-variable
invariant-loop-variable l = without l.hidden (listed (drop l.variable-index l.inside)) (listed l.names) ≡ without l.hidden (listed l.inside) (listed l.initial.names)
