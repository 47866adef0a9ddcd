use Rattle.trail_core.proofs.Calls.{new_watching}
use Rattle.trail_core.proofs.trail.Trail.new.Goals as goal

pub invariant_of-result : goal.invariant_of-result
invariant_of-result c = new_watching c.args.vars c.in_ok-plain.plain c.in_ok-watches.watches c.in_ok-shorts.shorts c.in_ok-plain.ensures.empty c.in_ok-plain.ensures.trail c.in_ok-watches.ensures c.in_ok-shorts.ensures
