use Rattle.std.proofs.Common.{◌++◌, drop}
use Rattle.vcd_waves.specs.Variables.{placed_among}
use Rattle.vcd_waves.proofs.ListSteps.{below_here, below_next}
use Rattle.vcd_waves.proofs.variable.take_below.Goals as goal

pub returns-then-variable-other-clause-taken : goal.returns-then-variable-other-clause-taken
returns-then-variable-other-clause-taken c =
    λ behind. below_here c.loop-at.list.items (c.args.list.now.items ++ placed_among c.args.variable behind (drop c.args.from c.args.others.now))
    c.args.variable behind c.args.others.now c.loop-at.at c.variable_at-other.result
    c.variable_at-other.ensures c.if-variable-other.true (c.loop-at.invariant behind)

pub loop-at-preserved : goal.loop-at-preserved
loop-at-preserved c =
    λ behind. below_next c.loop-at.list.items c.push.new.self.items (c.args.list.now.items ++ placed_among c.args.variable behind (drop c.args.from c.args.others.now))
    c.args.variable behind c.args.others.now c.loop-at.at c.variable_at-other.result
    c.variable_at-other.ensures c.if-variable-other.false c.in_ok-push.ensures.items (c.loop-at.invariant behind)
