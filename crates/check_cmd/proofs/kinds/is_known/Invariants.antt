use Rattle.std.proofs.Common.{◌≡◌, drop}
use Rattle.suspect_map.specs.Choose.{named}
use Rattle.check_cmd.proofs.kinds.is_known.Given as goal

abbrev pub invariant-loop-kind : goal.invariant-loop-kind
invariant-loop-kind g l =
    named (λ k. (goal.Granularity-dyn g (k.vtable, k.value)).called k.value) (drop l.kind-index l.kinds) l.name
    ≡ named (λ k. (goal.Granularity-dyn g (k.vtable, k.value)).called k.value) l.kinds l.name
