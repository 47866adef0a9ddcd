use Rattle.std.proofs.Common.{refl}
use Rattle.sat_core.proofs.TracingBack.{derived_more}
use Rattle.sat_core.proofs.tracing.explain_all.Goals as goal

pub loop-var-preserved : goal.loop-var-preserved
loop-var-preserved c = record {
  idle = c.in_ok-explain.ensures.idle;
  steps = derived_more c.args.trail.now c.args.vars.now c.loop-var.var-index _ _ _ _ c.loop-var-test.true refl c.loop-var.invariant.steps c.in_ok-explain.ensures.step;
}
