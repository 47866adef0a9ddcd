use Rattle.std.proofs.Common.{◌∙◌, ap, sym, ◌||◌, ap₂}
use Rattle.std.specs.List.{list_any}
use Rattle.design_core.specs.Reads.{reads, part_reads}
use Rattle.design_core.specs.Mentions.{statement_mentions}
use Rattle.design_bits.specs.Rows.{label_reads, item_mentions}
use Rattle.design_bits.proofs.Added.{on-ok}
use Rattle.design_bits.proofs.ReadsAdded.{adds-beside, adds-named, each-more}
use Rattle.design_bits.proofs.MentionSteps.{block-mentions, if-mentions, case-mentions}
use Rattle.design_bits.proofs.mentions.+mentions.Goals as goal

pub add_statements-loop-statement-preserved : goal.add_statements-loop-statement-preserved
add_statements-loop-statement-preserved t c =
    let S = c.args.signals.now in
    each-more _ _ _ _ (λ y s k. statement_mentions S s k y) c.args.statements.now c.loop-statement.statement-index c.statement-item.result c.loop-statement-test.true c.statement-item.is
    c.loop-statement.invariant c.in_ok-add_statement.ensures

pub add_items-loop-item-preserved : goal.add_items-loop-item-preserved
add_items-loop-item-preserved t c =
    let S = c.args.signals.now in
    each-more _ _ _ _ (λ y s k. item_mentions S s k y) c.args.items.now c.loop-item.item-index c.item-item.result c.loop-item-test.true c.item-item.is
    c.loop-item.invariant c.in_ok-add_item.ensures

pub add_item-returns : goal.add_item-returns
add_item-returns t c =
    let S = c.args.signals.now in
    let item = c.args.item.now in
    on-ok c.add_statement.result _ _
    (λ a.
    adds-named _ _ _ (λ s k. list_any (label_reads S s k) c.deref.result.now || statement_mentions S s k item.body) (λ s k. item_mentions S s k item)
    (adds-beside _ _ _ _ (λ s k. list_any (label_reads S s k) c.deref.result.now) (λ s k. statement_mentions S s k item.body) c.in_ok-add_labels_reads.ensures a)
    (λ s k _. ap (λ x. list_any (label_reads S s k) x || statement_mentions S s k item.body) c.deref.ensures))
    c.add_statement.ensures

pub add_statement-returns-in-Block : goal.add_statement-returns-in-Block
add_statement-returns-in-Block t c =
    let S = c.args.signals.now in
    on-ok c.add_statements.result _ _
    (λ a.
    adds-named _ _ _ (λ s k. list_any (statement_mentions S s k) c.deref.result.now) (λ s k. statement_mentions S s k c.args.statement.now) a
    (λ s k _.
    ap (list_any (statement_mentions S s k)) c.deref.ensures ∙ sym (block-mentions S s k c.in-Block.statements) ∙ ap (statement_mentions S s k) (sym c.in-Block.is)))
    c.add_statements.ensures

pub add_statement-returns-in_ok-add_statement-in-If : goal.add_statement-returns-in_ok-add_statement-in-If
add_statement-returns-in_ok-add_statement-in-If t c =
    let S = c.args.signals.now in
    let e = c.in-If in
    let on_true = c.deref-in-If.result.now in
    let on_false = c.deref-in-If-2.result.now in
    on-ok c.add_statement-in-If.result _ _
    (λ a.
    adds-named _ _ _ (λ s k. reads S s k e.cond || (statement_mentions S s k on_true || statement_mentions S s k on_false)) (λ s k. statement_mentions S s k c.args.statement.now)
    (adds-beside _ _ _ _ (λ s k. reads S s k e.cond) (λ s k. statement_mentions S s k on_true || statement_mentions S s k on_false) c.in_ok-add_reads-in-If.ensures
    (adds-beside _ _ _ _ (λ s k. statement_mentions S s k on_true) (λ s k. statement_mentions S s k on_false) c.in_ok-add_statement-in-If.ensures a))
    (λ s k _.
    ap₂ (λ x y. reads S s k e.cond || (statement_mentions S s k x || statement_mentions S s k y)) c.deref-in-If.ensures c.deref-in-If-2.ensures
    ∙ sym (if-mentions S s k e.cond e.yes e.no) ∙ ap (statement_mentions S s k) (sym e.is)))
    c.add_statement-in-If.ensures

pub add_statement-returns-in_ok-add_items-in-Case : goal.add_statement-returns-in_ok-add_items-in-Case
add_statement-returns-in_ok-add_items-in-Case t c =
    let S = c.args.signals.now in
    let e = c.in-Case in
    let items = c.deref-in-Case.result.now in
    let other = c.deref-in-Case-2.result.now in
    on-ok c.add_statement-in-Case.result _ _
    (λ a.
    adds-named _ _ _ (λ s k. reads S s k e.subject || (list_any (item_mentions S s k) items || statement_mentions S s k other)) (λ s k. statement_mentions S s k c.args.statement.now)
    (adds-beside _ _ _ _ (λ s k. reads S s k e.subject) (λ s k. list_any (item_mentions S s k) items || statement_mentions S s k other) c.in_ok-add_reads-in-Case.ensures
    (adds-beside _ _ _ _ (λ s k. list_any (item_mentions S s k) items) (λ s k. statement_mentions S s k other) c.in_ok-add_items-in-Case.ensures a))
    (λ s k _.
    ap₂ (λ x y. reads S s k e.subject || (list_any (item_mentions S s k) x || statement_mentions S s k y)) c.deref-in-Case.ensures c.deref-in-Case-2.ensures
    ∙ sym (case-mentions S s k e.subject e.items e.other e.wild) ∙ ap (statement_mentions S s k) (sym e.is)))
    c.add_statement-in-Case.ensures

pub add_statement-returns-in_ok-add_reads-in-Set : goal.add_statement-returns-in_ok-add_reads-in-Set
add_statement-returns-in_ok-add_reads-in-Set t c =
    let S = c.args.signals.now in
    let e = c.in-Set in
    let parts = c.deref-in-Set.result.now in
    on-ok c.add_parts_reads.result _ _
    (λ a.
    adds-named _ _ _ (λ s k. reads S s k e.value || list_any (part_reads S s k) parts) (λ s k. statement_mentions S s k c.args.statement.now)
    (adds-beside _ _ _ _ (λ s k. reads S s k e.value) (λ s k. list_any (part_reads S s k) parts) c.in_ok-add_reads-in-Set.ensures a)
    (λ s k _. ap (λ x. reads S s k e.value || list_any (part_reads S s k) x) c.deref-in-Set.ensures ∙ ap (statement_mentions S s k) (sym e.is)))
    c.add_parts_reads.ensures
