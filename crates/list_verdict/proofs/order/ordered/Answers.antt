use Rattle.std.proofs.Common.{arith, subst}
use Rattle.list_verdict.specs.Claims.{claim_of}
use Rattle.list_verdict.specs.Judging.{FoundAt}
use Rattle.list_verdict.proofs.Ordered.{all-found, found-more}
use Rattle.list_verdict.proofs.order.ordered.Goals as goal

pub loop-place-preserved : goal.loop-place-preserved
loop-place-preserved c =
    found-more (claim_of c.args.listed.now) c.loop-place.place c.loop-place.found.items c.push.new.self.items c.in-Some.set c.loop-place.invariant
    (subst (FoundAt (claim_of c.args.listed.now) c.loop-place.place) c.in-Some.is c.in_ok-set.ensures) c.in_ok-push.ensures.items

pub returns : goal.returns
returns c =
    all-found (claim_of c.args.listed.now) c.loop-place.place c.loop-place.found.items (omega arith) (omega arith) c.loop-place.invariant
