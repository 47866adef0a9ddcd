use Rattle.std.proofs.Common.{◌≡◌, map, take}
use Rattle.localise_cmd.proofs.kinds.names_of.Given as goal

abbrev pub invariant-loop-kind : goal.invariant-loop-kind
invariant-loop-kind g l = record {
  named : map (λ w. w.now) l.names.items
      ≡ map (λ k. (goal.Granularity-dyn g (k.vtable, k.value)).called k.value) (take l.kind-index l.kinds);
}
