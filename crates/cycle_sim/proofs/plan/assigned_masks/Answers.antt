use Rattle.cycle_sim.proofs.Planning.{reset-adds}
use Rattle.cycle_sim.proofs.plan.assigned_masks.Goals as goal

pub returns-in_ok-add_statement-in-Some : goal.returns-in_ok-add_statement-in-Some
returns-in_ok-add_statement-in-Some c =
    reset-adds c.args.design.now c.args.block.now c.in-Some.reset c.args.only_now c.add_statement.new.row.items
    c.add_statement-in-Some.new.row.items c.in-Some.is c.requires.fits
    (rw c.new-row.ensures.items at c.in_ok-add_statement.ensures) c.in_ok-add_statement-in-Some.ensures
