use Rattle.std.proofs.Common.{◌∙◌, ap, sym, ◌||◌, ap₂}
use Rattle.std.specs.List.{list_any}
use Rattle.place_functions.specs.Operands.{statement_uses, item_uses, assigns_from}
use Rattle.place_functions.proofs.NoteSteps.{on-ok, notes-both, notes-same, each-more}
use Rattle.place_functions.proofs.UseSteps.{block-values, if-values, case-values}
use Rattle.place_functions.proofs.note_places.+note_places.Goals as goal

pub note_statements-loop-statement-preserved : goal.note_statements-loop-statement-preserved
note_statements-loop-statement-preserved t c =
    let S = c.args.signals.now in
    each-more _ _ _ (λ y p s k. statement_uses S p s k y) c.args.statements.now c.loop-statement.statement-index c.statement-item.result c.loop-statement-test.true c.statement-item.is
    c.loop-statement.invariant c.in_ok-note_statement.ensures

pub note_items-loop-item-preserved : goal.note_items-loop-item-preserved
note_items-loop-item-preserved t c =
    let S = c.args.signals.now in
    each-more _ _ _ (λ y p s k. item_uses S p s k y) c.args.items.now c.loop-item.item-index c.item-item.result c.loop-item-test.true c.item-item.is
    c.loop-item.invariant c.in_ok-note_statement.ensures

pub note_statement-returns-in-Block : goal.note_statement-returns-in-Block
note_statement-returns-in-Block t c =
    let S = c.args.signals.now in
    on-ok c.note_statements.result _ _
    (λ a.
    notes-same _ _ (λ p s k. list_any (statement_uses S p s k) c.deref.result.now) (λ p s k. statement_uses S p s k c.args.statement.now) a
    (λ p s k.
    ap (list_any (statement_uses S p s k)) c.deref.ensures ∙ sym (block-values (assigns_from S p s k) c.in-Block.statements) ∙ ap (statement_uses S p s k) (sym c.in-Block.is)))
    c.note_statements.ensures

pub note_statement-returns-in_ok-note_statement-in-If : goal.note_statement-returns-in_ok-note_statement-in-If
note_statement-returns-in_ok-note_statement-in-If t c =
    let S = c.args.signals.now in
    let e = c.in-If in
    let on_true = c.deref-in-If.result.now in
    let on_false = c.deref-in-If-2.result.now in
    on-ok c.note_statement-in-If.result _ _
    (λ a.
    notes-same _ _ (λ p s k. statement_uses S p s k on_true || statement_uses S p s k on_false) (λ p s k. statement_uses S p s k c.args.statement.now)
    (notes-both _ _ _ (λ p s k. statement_uses S p s k on_true) (λ p s k. statement_uses S p s k on_false) c.in_ok-note_statement-in-If.ensures a)
    (λ p s k.
    ap₂ (λ x y. statement_uses S p s k x || statement_uses S p s k y) c.deref-in-If.ensures c.deref-in-If-2.ensures
    ∙ sym (if-values (assigns_from S p s k) e.cond e.yes e.no) ∙ ap (statement_uses S p s k) (sym e.is)))
    c.note_statement-in-If.ensures

pub note_statement-returns-in_ok-note_items-in-Case : goal.note_statement-returns-in_ok-note_items-in-Case
note_statement-returns-in_ok-note_items-in-Case t c =
    let S = c.args.signals.now in
    let e = c.in-Case in
    let items = c.deref-in-Case.result.now in
    let other = c.deref-in-Case-2.result.now in
    on-ok c.note_statement-in-Case.result _ _
    (λ a.
    notes-same _ _ (λ p s k. list_any (item_uses S p s k) items || statement_uses S p s k other) (λ p s k. statement_uses S p s k c.args.statement.now)
    (notes-both _ _ _ (λ p s k. list_any (item_uses S p s k) items) (λ p s k. statement_uses S p s k other) c.in_ok-note_items-in-Case.ensures a)
    (λ p s k.
    ap₂ (λ x y. list_any (item_uses S p s k) x || statement_uses S p s k y) c.deref-in-Case.ensures c.deref-in-Case-2.ensures
    ∙ sym (case-values (assigns_from S p s k) e.subject e.items e.other e.wild) ∙ ap (statement_uses S p s k) (sym e.is)))
    c.note_statement-in-Case.ensures
