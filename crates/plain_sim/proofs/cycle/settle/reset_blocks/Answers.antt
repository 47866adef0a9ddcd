use Rattle.std.proofs.Common.{◌∙◌, ◌+◌, ap, sym, arith, drop}
use Rattle.loc_base.proofs.ShelfLists.{slice_get-some}
use Rattle.design_core.specs.After.{Choice}
use Rattle.design_core.specs.Words.{valuation_of, choice_of}
use Rattle.design_core.specs.Steps.{with_resets}
use Rattle.plain_sim.proofs.EvaluateSteps.{drop-some}
use Rattle.plain_sim.proofs.cycle.settle.reset_blocks.Goals as goal

pub loop-i-preserved : goal.loop-i-preserved
loop-i-preserved c =
    let choice : Choice = choice_of c.args.freed.now c.args.chosen.now in
    let (block, at) = slice_get-some c.args.design.now.clocked.items c.loop-i.i (omega (arith, c.loop-i-test.true, c.len-i-end.ensures, c.args.design.now.clocked.ok.0)) in
    record {
      words = c.reset_block.ensures.words;
      value =
          ap (with_resets c.args.design.now choice (valuation_of c.args.before.now) (drop (c.loop-i.i + 1) c.args.design.now.clocked.items)) (c.in_ok-reset_block.ensures.value block at)
          ∙ sym (ap (λ blocks. with_resets c.args.design.now choice (valuation_of c.args.before.now) blocks (valuation_of c.loop-i.now)) (drop-some c.args.design.now.clocked.items c.loop-i.i block at))
          ∙ c.loop-i.invariant.value;
    }
