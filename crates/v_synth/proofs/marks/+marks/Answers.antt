use Rattle.std.proofs.Common.{◌∙◌, ap, sym, List, ℕ}
use Rattle.std.specs.Prelude.{Bool, ◌&&◌, ◌||◌}
use Rattle.std.specs.List.{list_any}
use Rattle.design_core.specs.declared.statement.Part.{Part}
use Rattle.design_core.specs.Drives.{some_set, part_names}
use Rattle.design_core.proofs.StatementSteps.{sets_if}
use Rattle.design_bits.specs.Rows.{item_passes}
use Rattle.design_bits.proofs.DriveSteps.{block-sets, case-sets}
use Rattle.v_synth.proofs.MarkSteps.{marked-both, marked-same}
use Rattle.v_synth.proofs.marks.+marks.Goals as goal

pub mark_statement-returns-in-Block : goal.mark_statement-returns-in-Block
mark_statement-returns-in-Block t c =
    let test = λ (s : ℕ) (parts : List Part) (later : Bool). later && list_any (part_names s) parts in
    marked-same _ _ _ _ _ c.mark_statements.ensures
    (λ s _. ap (list_any (some_set (test s))) c.deref.ensures ∙ sym (block-sets (test s) c.in-Block.statements) ∙ ap (some_set (test s)) (sym c.in-Block.is))

pub mark_statement-returns-in-If : goal.mark_statement-returns-in-If
mark_statement-returns-in-If t c =
    let test = λ (s : ℕ) (parts : List Part) (later : Bool). later && list_any (part_names s) parts in
    marked-same _ _ _ _ _ (marked-both _ _ _ _ _ _ c.mark_statement.ensures c.mark_statement-in-If.ensures)
    (λ s _.
    ap (λ x. x || some_set (test s) c.deref-in-If-2.result.now) (ap (some_set (test s)) c.deref-in-If.ensures)
    ∙ ap (λ x. some_set (test s) c.in-If.yes || some_set (test s) x) c.deref-in-If-2.ensures
    ∙ sym (sets_if (test s) c.in-If.cond c.in-If.yes c.in-If.no) ∙ ap (some_set (test s)) (sym c.in-If.is))

pub mark_statement-returns-in-Case : goal.mark_statement-returns-in-Case
mark_statement-returns-in-Case t c =
    let test = λ (s : ℕ) (parts : List Part) (later : Bool). later && list_any (part_names s) parts in
    marked-same _ _ _ _ _ (marked-both _ _ _ _ _ _ c.mark_items.ensures c.mark_statement-in-Case.ensures)
    (λ s _.
    ap (λ x. list_any (item_passes (test s)) x || some_set (test s) c.deref-in-Case-2.result.now) c.deref-in-Case.ensures
    ∙ ap (λ x. list_any (item_passes (test s)) c.in-Case.items || some_set (test s) x) c.deref-in-Case-2.ensures
    ∙ sym (case-sets (test s) c.in-Case.subject c.in-Case.items c.in-Case.other c.in-Case.wild) ∙ ap (some_set (test s)) (sym c.in-Case.is))
