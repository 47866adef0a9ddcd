use Rattle.check_cmd.proofs.KindNames.{known-here}
use Rattle.check_cmd.proofs.kinds.is_known.Goals as goal

pub returns-then-is_called : goal.returns-then-is_called
returns-then-is_called g c =
    known-here (λ k. (goal.Granularity-dyn g (k.vtable, k.value)).called k.value) c.args.kinds.now c.loop-kind.kind-index
    c.kind-item.result c.args.name.now c.is_called.result c.loop-kind-test.true c.kind-item.is c.is_called.ensures c.if-is_called.true
    c.loop-kind.invariant
