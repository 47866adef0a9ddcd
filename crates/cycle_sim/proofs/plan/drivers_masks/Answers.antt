use Rattle.std.proofs.Common.{arith}
use Rattle.cycle_sim.proofs.Planning.{rows-end}
use Rattle.cycle_sim.proofs.plan.drivers_masks.Goals as goal

pub returns : goal.returns
returns c = rows-end c.args.design.now c.loop-i.rows c.loop-i.i
    (omega (arith, c.loop-i-test.false, c.loop-i.auto.i-end, c.len-i-end.ensures, c.args.design.now.drivers.ok.0)) c.loop-i.invariant
