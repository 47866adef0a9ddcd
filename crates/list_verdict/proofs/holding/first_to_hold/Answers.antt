use Rattle.std.proofs.Common.{◌+◌, arith, refl}
use Rattle.list_verdict.proofs.Held.{hold-first, hold-more, hold-none}
use Rattle.list_verdict.proofs.holding.first_to_hold.Goals as goal

pub returns-in-Some : goal.returns-in-Some
returns-in-Some c =
    hold-first c.args.sets.now c.loop-place.place c.in-Some.other
    (record { set = c.loop-place.place + 1; other = c.in-Some.other + 1 }) c.loop-place.invariant c.in-Some.ensures refl refl

pub loop-place-preserved : goal.loop-place-preserved
loop-place-preserved c = hold-more c.args.sets.now c.loop-place.place c.loop-place.invariant c.in-None.ensures

pub returns : goal.returns
returns c = hold-none c.args.sets.now c.loop-place.place (omega arith) c.loop-place.invariant
