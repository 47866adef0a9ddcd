use Rattle.std.proofs.Common.{arith}
use Rattle.cycle_code.specs.Program.{program_of}
use Rattle.cycle_sim.proofs.Pushing.{masks-more}
use Rattle.cycle_sim.proofs.compiled.clear.Goals as goal

pub loop-k-preserved : goal.loop-k-preserved
loop-k-preserved c = record {
  pushes =
      masks-more (program_of c.args.code.now) (program_of c.loop-k.code) (program_of c.clear_mask.new.code) c.mask_at.result
      c.loop-k.k c.args.masks.now (omega (arith, c.loop-k-test.true)) c.mask_at.ensures c.loop-k.invariant.pushes
      c.in_ok-clear_mask.ensures.pushes;
  sound = c.in_ok-clear_mask.ensures.sound;
}
