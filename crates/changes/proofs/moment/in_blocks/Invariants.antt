use Rattle.std.proofs.Common.{◌≡◌, drop}
use Rattle.changes.specs.Moments.{choice_in, values_in}
use Rattle.changes.specs.Execution.{first_executed, executed_clocked}
use Rattle.changes.proofs.moment.in_blocks.Given as goal

abbrev pub invariant-loop-block : goal.invariant-loop-block
invariant-loop-block l =
    let executes = executed_clocked l.moment.design.now.signals.items (choice_in l.moment) (values_in l.moment) l.place in
    first_executed executes (drop l.block-index l.moment.design.now.clocked.items)
    ≡ first_executed executes l.moment.design.now.clocked.items
