use Rattle.std.proofs.Common.{length, ap, ◌∙◌}
use Rattle.synth_parts.proofs.AssignSteps.{indexes-each}
use Rattle.synth_parts.proofs.store.Left.assign.Goals as goal

pub parts-requires-clause-indexes : goal.parts-requires-clause-indexes
parts-requires-clause-indexes c =
    ap length c.as_slice-2.ensures
    ∙ indexes-each c.args.self.now.signals.now c.as_slice.result.now c.push.new.nodes c.indexes.new.nodes c.in_ok-indexes.indexes c.args.set.now.parts.now c.in_ok-indexes.ensures

pub parts-requires-else-set-clause-indexes : goal.parts-requires-else-set-clause-indexes
parts-requires-else-set-clause-indexes c =
    ap length c.as_slice-2.ensures
    ∙ indexes-each c.args.self.now.signals.now c.as_slice.result.now c.push.new.nodes c.indexes.new.nodes c.in_ok-indexes.indexes c.args.set.now.parts.now c.in_ok-indexes.ensures
