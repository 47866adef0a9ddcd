use Rattle.std.proofs.Common.{arith}
use Rattle.plain_values.proofs.EvaluateWords.{slice_get_at}
use Rattle.cycle_sim.proofs.Planning.{blocks-next, blocks-end}
use Rattle.cycle_sim.proofs.plan.blocks_masks.Goals as goal

pub loop-i-preserved : goal.loop-i-preserved
loop-i-preserved c =
    blocks-next c.args.design.now c.loop-i.rows c.push_block.new.rows c.loop-i.i c.index.result.now
    (slice_get_at c.args.design.now.clocked.items c.loop-i.i c.index.result.now
    (omega (arith, c.loop-i-test.true, c.len-i-end.ensures, c.args.design.now.clocked.ok.0)) c.index.ensures)
    c.loop-i.invariant c.in_ok-push_block.ensures

pub returns : goal.returns
returns c =
    blocks-end c.args.design.now c.loop-i.rows c.loop-i.i
    (omega (arith, c.loop-i-test.false, c.loop-i.auto.i-end, c.len-i-end.ensures, c.args.design.now.clocked.ok.0)) c.loop-i.invariant
