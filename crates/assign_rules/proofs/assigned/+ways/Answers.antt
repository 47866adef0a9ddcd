use Rattle.std.proofs.Common.{◌∙◌, ap, ap₂, sym, ℕ}
use Rattle.std.specs.Prelude.{◌||◌, ◌&&◌}
use Rattle.std.specs.List.{list_any}
use Rattle.design_rules.specs.Assignments.{part_of}
use Rattle.design_core.specs.Drives.{some_set}
use Rattle.assign_rules.specs.Ways.{by_way}
use Rattle.design_core.proofs.StatementSteps.{sets_if}
use Rattle.design_bits.specs.Rows.{item_passes}
use Rattle.design_bits.proofs.Added.{adds-both, adds-same, on-ok}
use Rattle.design_bits.proofs.DriveSteps.{block-sets, case-sets}
use Rattle.assign_rules.proofs.assigned.+ways.Goals as goal

pub add_statement-returns-in-Block : goal.add_statement-returns-in-Block
add_statement-returns-in-Block t c =
    let test = λ (s b : ℕ). by_way c.args.way c.args.homes.now s in
    on-ok c.add_statements.result _ _
    (λ a.
    adds-same _ _ _ _ a
    (λ s b _ _.
    ap (list_any (some_set (test s b))) c.deref.ensures ∙ sym (block-sets (test s b) c.in-Block.statements) ∙ ap (some_set (test s b)) (sym c.in-Block.is)))
    c.add_statements.ensures

pub add_statement-returns-in_ok-add_statement-in-If : goal.add_statement-returns-in_ok-add_statement-in-If
add_statement-returns-in_ok-add_statement-in-If t c =
    let test = λ (s b : ℕ). by_way c.args.way c.args.homes.now s in
    on-ok c.add_statement-in-If.result _ _
    (λ a.
    adds-same _ _ _ _ (adds-both _ _ _ _ _ c.in_ok-add_statement-in-If.ensures a)
    (λ s b _ _.
    ap (λ x. x || some_set (test s b) c.deref-in-If-2.result.now) (ap (some_set (test s b)) c.deref-in-If.ensures)
    ∙ ap (λ x. some_set (test s b) c.in-If.yes || some_set (test s b) x) c.deref-in-If-2.ensures
    ∙ sym (sets_if (test s b) c.in-If.cond c.in-If.yes c.in-If.no) ∙ ap (some_set (test s b)) (sym c.in-If.is)))
    c.add_statement-in-If.ensures

pub add_statement-returns-in_ok-add_items-in-Case : goal.add_statement-returns-in_ok-add_items-in-Case
add_statement-returns-in_ok-add_items-in-Case t c =
    let test = λ (s b : ℕ). by_way c.args.way c.args.homes.now s in
    on-ok c.add_statement-in-Case.result _ _
    (λ a.
    adds-same _ _ _ _ (adds-both _ _ _ _ _ c.in_ok-add_items-in-Case.ensures a)
    (λ s b _ _.
    ap (λ x. list_any (item_passes (test s b)) x || some_set (test s b) c.deref-in-Case-2.result.now) c.deref-in-Case.ensures
    ∙ ap (λ x. list_any (item_passes (test s b)) c.in-Case.items || some_set (test s b) x) c.deref-in-Case-2.ensures
    ∙ sym (case-sets (test s b) c.in-Case.subject c.in-Case.items c.in-Case.other c.in-Case.wild) ∙ ap (some_set (test s b)) (sym c.in-Case.is)))
    c.add_statement-in-Case.ensures

pub add_statement-returns-in-Set : goal.add_statement-returns-in-Set
add_statement-returns-in-Set t c =
    on-ok c.add_set.result _ _
    (λ a.
    adds-same _ _ _ _ a
    (λ s b _ _.
    ap₂ (λ w ps. w && list_any (part_of c.args.homes.now s) ps) c.is_way.ensures c.deref-in-Set.ensures ∙ ap (some_set (by_way c.args.way c.args.homes.now s)) (sym c.in-Set.is)))
    c.add_set.ensures
