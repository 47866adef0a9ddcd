use Rattle.std.proofs.Common.{◌∙◌}
use Rattle.design_bits.proofs.ListedLaws.{undone-turn}
use Rattle.design_bits.proofs.listed.put_back.Goals as goal

pub loop-turn-preserved : goal.loop-turn-preserved
loop-turn-preserved c =
    undone-turn c.args.before.now c.loop-turn.turn _ c.loop-turn.table c.put_one.new.table c.loop-turn-test.true c.put_one.ensures ∙ c.loop-turn.invariant
