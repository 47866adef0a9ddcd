use Rattle.std.proofs.Common.{◌+◌, List, sym, subst}
use Rattle.plain_values.proofs.EvaluateWords.{slice_get_at}
use Rattle.cycle_code.specs.Program.{Program, program_of}
use Rattle.cycle_code.proofs.GrowthLaws.{Grown-trans}
use Rattle.cycle_code.specs.declared.range.Range.{Range}
use Rattle.cycle_sim.proofs.Pushing.{Carries-grown}
use Rattle.cycle_sim.proofs.Ranges.{CarriesBody, RangesSoFar, RangesSoFar-more}
use Rattle.cycle_sim.proofs.compiled.carry_bodies.Goals as goal

pub loop-block-preserved : goal.loop-block-preserved
loop-block-preserved c =
    let mid : Program = program_of c.loop-block.code in
    let new : Program = program_of c.carry.new.code in
    let at = slice_get_at c.args.blocks.now c.loop-block.block-index c.block-item.result c.loop-block-test.true c.block-item.is in
    record {
      grown = Grown-trans (program_of c.args.code.now) mid new c.loop-block.invariant.grown c.in_ok-range.ensures.grown;
      sound = c.in_ok-range.ensures.sound;
      ranges = subst (λ (rs : List Range). RangesSoFar (CarriesBody new) c.args.blocks.now rs (c.loop-block.block-index + 1))
          (sym c.in_ok-push.ensures.items)
          (RangesSoFar-more (CarriesBody mid) (CarriesBody new) c.args.blocks.now c.loop-block.ranges.items
          c.loop-block.block-index c.block-item.result c.in_ok-range.range
          at c.loop-block.invariant.ranges (λ r b carries. Carries-grown mid new r b.body c.in_ok-range.ensures.grown carries)
          c.in_ok-range.ensures.carries);
    }
