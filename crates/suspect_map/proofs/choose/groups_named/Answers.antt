use Rattle.suspect_map.proofs.ChooseLaws.{groups-found}
use Rattle.suspect_map.proofs.choose.groups_named.Goals as goal

pub returns-then-is_called-clause-lists : goal.returns-then-is_called-clause-lists
returns-then-is_called-clause-lists g c =
    groups-found c.args.kinds.now (λ k. (goal.Granularity-dyn g (k.vtable, k.value)).called k.value) (λ k. (goal.Granularity-dyn g (k.vtable, k.value)).lists k.value c.args.places.now)
    c.loop-kind.kind-index c.kind-item.result c.args.name.now c.is_called.result c.in_ok-groups_by.field-0
    c.loop-kind-test.true c.kind-item.is c.is_called.ensures c.if-is_called.true c.loop-kind.invariant c.in_ok-groups_by.ensures.lists
