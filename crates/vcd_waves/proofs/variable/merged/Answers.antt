use Rattle.std.proofs.Common.{drop}
use Rattle.vcd_waves.specs.Variables.{merged}
use Rattle.vcd_waves.proofs.ListSteps.{merge_next}
use Rattle.vcd_waves.proofs.variable.merged.Goals as goal

pub loop-place-preserved : goal.loop-place-preserved
loop-place-preserved c = record {
  within = c.in_ok-taken.ensures.bound;
  whole =
      merge_next c.loop-place.list.items c.take_below.new.list.items c.push.new.self.items (merged c.args.variables.now c.args.others.now)
      c.args.variables.now (drop c.loop-place.taken c.args.others.now) (drop c.in_ok-taken.taken c.args.others.now)
      c.loop-place.place c.variable_at-variable.result
      c.variable_at-variable.ensures c.in_ok-push.ensures.items c.in_ok-taken.ensures.taken c.loop-place.invariant.whole;
}
