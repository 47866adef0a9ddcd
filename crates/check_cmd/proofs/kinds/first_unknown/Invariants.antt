use Rattle.std.proofs.Common.{◌≡◌, drop}
use Rattle.suspect_map.specs.Choose.{unknown}
use Rattle.check_cmd.proofs.kinds.first_unknown.Given as goal

abbrev pub invariant-loop-name : goal.invariant-loop-name
invariant-loop-name g l =
    unknown (λ k. (goal.Granularity-dyn g (k.vtable, k.value)).called k.value) l.kinds (drop l.name-index l.names)
    ≡ unknown (λ k. (goal.Granularity-dyn g (k.vtable, k.value)).called k.value) l.kinds l.names
