use Rattle.std.proofs.Common.{length, ap, ◌∙◌}
use Rattle.synth_parts.proofs.AssignSteps.{indexes-each}
use Rattle.synth_parts.proofs.store.Left.continuous.Goals as goal

pub parts-requires-clause-indexes : goal.parts-requires-clause-indexes
parts-requires-clause-indexes c =
    ap length c.as_slice-3.ensures
    ∙ indexes-each c.args.self.now.signals.now c.as_slice.result.now c.assigned.new.nodes c.indexes.new.nodes c.in_ok-indexes.indexes c.args.set.now.parts.now c.in_ok-indexes.ensures
