use Rattle.card_counter.proofs.Steps.{row-next}
use Rattle.card_counter.proofs.step.Step.push_row.Goals as goal

pub loop-done-preserved : goal.loop-done-preserved
loop-done-preserved c =
    row-next c.args.self.first c.args.self.k c.args.self.counted c.args.selector c.loop-done.done c.args.clauses.now c.loop-done.clauses c.push_pair.new.clauses
    c.loop-done.invariant c.in_ok-push_pair.ensures
