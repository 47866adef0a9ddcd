use Rattle.std.proofs.Common.{◌∙◌, sym}
use Rattle.cycle_sim.proofs.CollectSteps.{block-adds, if-adds, case-adds, set-adds}
use Rattle.cycle_sim.proofs.collect.+collect.Goals as goal

pub add_statement-returns-in_ok-add_statements-in-Block : goal.add_statement-returns-in_ok-add_statements-in-Block
add_statement-returns-in_ok-add_statements-in-Block t c =
    rw c.in-Block.is
    (block-adds c.args.design.now.signals.items c.args.design.now.places.items c.args.only_now c.in-Block.statements
    c.args.row.now.items c.add_statements.new.row.items
    (rw c.deref.ensures at c.in_ok-add_statements-in-Block.ensures))

pub add_statement-returns-in_ok-add_statement-in-If-2 : goal.add_statement-returns-in_ok-add_statement-in-If-2
add_statement-returns-in_ok-add_statement-in-If-2 t c =
    rw c.in-If.is
    (if-adds c.args.design.now.signals.items c.args.design.now.places.items c.args.only_now c.in-If.cond c.in-If.yes
    c.in-If.no c.args.row.now.items c.add_statement.new.row.items c.add_statement-in-If.new.row.items
    (rw c.deref-in-If.ensures at c.in_ok-add_statement-in-If.ensures) (rw c.deref-in-If-2.ensures at c.in_ok-add_statement-in-If-2.ensures))

pub add_statement-returns-in_ok-add_statement-in-Case : goal.add_statement-returns-in_ok-add_statement-in-Case
add_statement-returns-in_ok-add_statement-in-Case t c =
    rw c.in-Case.is
    (case-adds c.args.design.now.signals.items c.args.design.now.places.items c.args.only_now c.in-Case.subject
    c.in-Case.items c.in-Case.other c.in-Case.wild c.args.row.now.items c.add_items.new.row.items c.add_statement-in-Case.new.row.items
    (rw c.deref-in-Case.ensures at c.in_ok-add_items-in-Case.ensures)
    (rw c.deref-in-Case-2.ensures at c.in_ok-add_statement-in-Case.ensures))

pub add_statement-returns-in_ok-add_parts-in-Set : goal.add_statement-returns-in_ok-add_parts-in-Set
add_statement-returns-in_ok-add_parts-in-Set t c =
    rw c.in-Set.is
    (set-adds c.args.design.now.signals.items c.args.design.now.places.items c.args.only_now c.in-Set.place c.in-Set.target
    c.in-Set.value c.in-Set.later c.args.row.now.items c.add_parts.new.row.items
    (sym c.counts.ensures ∙ c.if-not-counts.false)
    (rw (c.deref-in-Set.ensures.value, c.deref-in-Set-2.ensures) at c.in_ok-add_parts-in-Set.ensures))
