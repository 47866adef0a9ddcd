use Rattle.std.proofs.Common.{◌≡◌, drop}
use Rattle.v_binding.specs.Steps.{through}
use Rattle.v_binding.specs.Starts.{started}
use Rattle.bind_scopes.proofs.started.put_declared.Given as goal

abbrev pub invariant-loop-start : goal.invariant-loop-start
invariant-loop-start l = through started (drop l.start-index l.starts) l.signals.items ≡ through started l.starts l.initial.signals.items
