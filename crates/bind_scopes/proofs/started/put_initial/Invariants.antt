use Rattle.std.proofs.Common.{◌≡◌, map, drop}
use Rattle.v_binding.specs.Steps.{through}
use Rattle.v_binding.specs.Starts.{started}
use Rattle.bind_scopes.proofs.started.put_initial.Given as goal

abbrev pub invariant-loop-initial : goal.invariant-loop-initial
invariant-loop-initial l =
    through started (map (λ i. i.start) (drop l.initial-index l.starts)) l.signals.items ≡ through started (map (λ i. i.start) l.starts) l.initial.signals.items
