use Rattle.std.proofs.Common.{◌≡◌, ◌+◌, ◌-◌, ◌/◌, length, true, arith, rules}
use Rattle.list_verdict.specs.Judging.{shares_gap}
use Rattle.list_verdict.proofs.Held.{past-shared}
use Rattle.list_verdict.proofs.holding.past_gap.Goals as goal

pub loop-low-preserved-then-shares_gap : goal.loop-low-preserved-then-shares_gap
loop-low-preserved-then-shares_gap c =
    let same : length c.as_slice-other.result.now ≡ length c.as_slice-first.result.now = omega arith in
    let shares : shares_gap c.args.outer.now c.as_slice-first.result.now c.as_slice-other.result.now ≡ true = search rules in
    record {
      later = omega arith;
      low = omega arith;
      high = omega arith;
      none =
          past-shared c.args.sets.now c.args.outer.now c.as_slice-first.result.now c.as_slice-other.result.now c.args.from c.loop-low.low
          (c.loop-low.low + (c.loop-low.high - c.loop-low.low) / 2) c.set_at.result.now c.set_at-in-loop-low.result.now c.requires.order
          c.requires.outer c.set_at.ensures c.set_at-in-loop-low.ensures c.as_slice-first.ensures c.as_slice-other.ensures
          c.loop-low.invariant.later same shares c.loop-low.invariant.none;
    }
