use Rattle.std.proofs.Common.{rules, arith, refl}
use Rattle.report_sets.proofs.Once.{once-all, once-next}
use Rattle.report_sets.proofs.kinds.are_once.Goals as goal

pub loop-place-preserved : goal.loop-place-preserved
loop-place-preserved c =
    once-next c.args.names.now c.loop-place.place c.index-names-place.result (omega arith) c.index-names-place.is c.loop-place.invariant
    (search rules)

pub returns : goal.returns
returns c = ((λ yes. once-all c.args.names.now c.loop-place.place (omega arith) c.loop-place.invariant), (λ once. refl))
