use Rattle.std.proofs.Common.{◌∙◌, ap, ap₂, sym, refl, rules, List, length}
use Rattle.std.specs.Prelude.{◌||◌, ◌&&◌}
use Rattle.std.specs.List.{list_any, list_all}
use Rattle.design_core.specs.declared.signal.Signal.{Signal}
use Rattle.design_core.specs.declared.place.Place.{Place}
use Rattle.design_core.specs.declared.statement.Stmt.TheViews.{the_lemmas}
use Rattle.design_core.specs.Reads.{statement_reads, assigns, reads, part_reads, is_nothing}
use Rattle.plain_values.proofs.EvaluateStatement.{block-fits, if-fits, case-fits, case-ends}
use Rattle.design_bits.specs.Full.{is_full_of}
use Rattle.design_bits.specs.Paths.{sequence_reads, item_reads, item_assigns}
use Rattle.design_bits.proofs.PathSteps.{block-reads, if-reads, case-reads, block-assigns, if-assigns, case-assigns}
use Rattle.design_bits.proofs.WaitLaws.{gone-both, gone-named, lists-named, block-turn, if-ok}
use Rattle.design_bits.proofs.CaseLaws.{bodies-fit, labels-fit, full-list, if-gone, if-listed, items-turn, case-gone, case-listed, set-listed}
use Rattle.design_bits.proofs.waits.+waits.Goals as goal

pub read_block-loop-statement-preserved : goal.read_block-loop-statement-preserved
read_block-loop-statement-preserved t c =
    block-turn _ _ _ _ _ _ _ _ _ _ _ c.args.design.now.signals.items c.args.statements.now c.loop-statement.statement-index c.statement-item.result
    c.loop-statement-test.true c.statement-item.is c.loop-statement.invariant c.in_ok-own.ensures.gone c.in_ok-own.ensures.listed c.deref.ensures.value
    c.in_ok-go_on.ensures.sure c.in_ok-go_on.ensures.undone c.in_ok-go_on.ensures.all c.in_ok-go_on.ensures.reads c.in_ok-go_on.ensures.empty

pub read_statement-returns-in-Block-clause-gone : goal.read_statement-returns-in-Block-clause-gone
read_statement-returns-in-Block-clause-gone t c =
    let S = c.args.design.now.signals.items in
    if-ok c.read_block.result _ _
    (λ list one.
    gone-named _ _ _ (λ s b. sequence_reads S s b c.deref.result.now) (λ s b. statement_reads S s b c.args.statement.now) one
    (λ s b. ap (sequence_reads S s b) c.deref.ensures ∙ sym (block-reads S s b c.in-Block.statements) ∙ ap (statement_reads S s b) (sym c.in-Block.is)))
    c.read_block.ensures.gone

pub read_statement-returns-in-Block-clause-listed : goal.read_statement-returns-in-Block-clause-listed
read_statement-returns-in-Block-clause-listed t c =
    let S = c.args.design.now.signals.items in
    if-ok c.read_block.result _ _
    (λ list one.
    lists-named _ _ (λ s b. list_any (assigns S s b) c.deref.result.now) (λ s b. assigns S s b c.args.statement.now) one
    (λ s b. ap (list_any (assigns S s b)) c.deref.ensures ∙ sym (block-assigns S s b c.in-Block.statements) ∙ ap (assigns S s b) (sym c.in-Block.is)))
    c.read_block.ensures.listed

pub read_items-loop-item-preserved : goal.read_items-loop-item-preserved
read_items-loop-item-preserved t c =
    let S = c.args.design.now.signals.items in
    items-turn (length S) c.args.walk.now c.loop-item.walk c.read_labels.new.walk c.read_statement.new.walk c.share.new.walk c.args.start c.loop-item.shared c.in_ok-shared.shared c.in_ok-own.own.items S
    c.args.items.now c.loop-item.item-index c.item-item.result c.deref.result.now c.loop-item-test.true c.item-item.is c.loop-item.invariant c.deref.ensures
    c.in_ok-read_labels.ensures c.in_ok-own.ensures.gone c.in_ok-own.ensures.listed c.in_ok-shared.ensures.sure c.in_ok-shared.ensures.reads c.in_ok-shared.ensures.long c.in_ok-shared.ensures.empty
    c.in_ok-shared.ensures.every c.in_ok-shared.ensures.shared

pub read_statement-read_block-requires : goal.read_statement-read_block-requires
read_statement-read_block-requires t c =
    let S : List Signal = c.args.design.now.signals.items in
    let P : List Place = c.args.design.now.places.items in
    let fits = sym (block-fits S P c.in-Block.statements) ∙ (rw c.in-Block.is at c.requires.fits) in
    (search (rules, the_lemmas), (c.requires.walk, rw c.deref.ensures fits))

pub read_statement-read_statement-requires : goal.read_statement-read_statement-requires
read_statement-read_statement-requires t c =
    let S : List Signal = c.args.design.now.signals.items in
    let P : List Place = c.args.design.now.places.items in
    let fits = if-fits S P c.in-If.cond c.in-If.yes c.in-If.no (rw c.in-If.is at c.requires.fits) in
    (search (rules, the_lemmas), (c.in_ok-read-in-If.ensures.fit, rw c.deref-in-If.ensures fits.1.0))

pub read_statement-read_statement-requires-in-If : goal.read_statement-read_statement-requires-in-If
read_statement-read_statement-requires-in-If t c =
    let S : List Signal = c.args.design.now.signals.items in
    let P : List Place = c.args.design.now.places.items in
    let fits = if-fits S P c.in-If.cond c.in-If.yes c.in-If.no (rw c.in-If.is at c.requires.fits) in
    (search (rules, the_lemmas), (c.in_ok-first-in-If.ensures.gone.fit, rw c.deref-in-If-2.ensures fits.1.1))

pub read_statement-read_statement-requires-in-Case : goal.read_statement-read_statement-requires-in-Case
read_statement-read_statement-requires-in-Case t c =
    let S : List Signal = c.args.design.now.signals.items in
    let P : List Place = c.args.design.now.places.items in
    let fits = case-ends S P c.in-Case.subject c.in-Case.items c.in-Case.other c.in-Case.wild (rw c.in-Case.is at c.requires.fits) in
    (search (rules, the_lemmas), (c.in_ok-read-in-Case.ensures.fit, rw c.deref-in-Case.ensures fits.1))

pub read_statement-is_full-requires-clause-subject : goal.read_statement-is_full-requires-clause-subject
read_statement-is_full-requires-clause-subject t c =
    let S : List Signal = c.args.design.now.signals.items in
    let P : List Place = c.args.design.now.places.items in
    let fits = case-ends S P c.in-Case.subject c.in-Case.items c.in-Case.other c.in-Case.wild (rw c.in-Case.is at c.requires.fits) in
    rw c.deref-in-Case-2.ensures.value fits.0

pub read_statement-is_full-requires-clause-fits : goal.read_statement-is_full-requires-clause-fits
read_statement-is_full-requires-clause-fits t c =
    let S : List Signal = c.args.design.now.signals.items in
    let P : List Place = c.args.design.now.places.items in
    let fits = labels-fit S P c.in-Case.subject.width c.in-Case.items (case-fits S P c.in-Case.subject c.in-Case.items c.in-Case.other c.in-Case.wild (rw c.in-Case.is at c.requires.fits)) in
    rw (c.deref-in-Case-2.ensures.value, c.deref-in-Case-3.ensures) fits

pub read_statement-read_items-requires : goal.read_statement-read_items-requires
read_statement-read_items-requires t c =
    let S : List Signal = c.args.design.now.signals.items in
    let P : List Place = c.args.design.now.places.items in
    let fits = bodies-fit S P c.in-Case.subject.width c.in-Case.items (case-fits S P c.in-Case.subject c.in-Case.items c.in-Case.other c.in-Case.wild (rw c.in-Case.is at c.requires.fits)) in
    (search (rules, the_lemmas), (c.in_ok-last-in-Case.ensures.gone.fit, rw c.deref-in-Case-5.ensures fits))

pub read_statement-returns-in_ok-second-in-If-clause-gone : goal.read_statement-returns-in_ok-second-in-If-clause-gone
read_statement-returns-in_ok-second-in-If-clause-gone t c =
    let S : List Signal = c.args.design.now.signals.items in
    let arms = gone-both (length S) c.read.new.walk c.read_statement.new.walk c.read_statement-in-If.new.walk (λ s b. statement_reads S s b c.deref-in-If.result.now) (λ s b. statement_reads S s b c.deref-in-If-2.result.now)
    c.in_ok-first-in-If.ensures.gone c.in_ok-second-in-If.ensures.gone in
    let all = gone-both (length S) c.args.walk.now c.read.new.walk c.read_statement-in-If.new.walk (λ s b. reads S s b c.in-If.cond)
    (λ s b. statement_reads S s b c.deref-in-If.result.now || statement_reads S s b c.deref-in-If-2.result.now) c.in_ok-read-in-If.ensures arms in
    if-gone c.meet.result (length S) c.args.walk.now c.read_statement-in-If.new.walk c.meet.new.walk
    (λ s b. reads S s b c.in-If.cond || (statement_reads S s b c.deref-in-If.result.now || statement_reads S s b c.deref-in-If-2.result.now)) (λ s b. statement_reads S s b c.args.statement.now) all
    c.meet.ensures.sure c.meet.ensures.reads c.meet.ensures.long c.meet.ensures.empty
    (λ s b.
    ap₂ (λ p q. reads S s b c.in-If.cond || (statement_reads S s b p || statement_reads S s b q)) c.deref-in-If.ensures c.deref-in-If-2.ensures
    ∙ sym (if-reads S s b c.in-If.cond c.in-If.yes c.in-If.no) ∙ ap (statement_reads S s b) (sym c.in-If.is))

pub read_statement-returns-in_ok-second-in-If-clause-listed : goal.read_statement-returns-in_ok-second-in-If-clause-listed
read_statement-returns-in_ok-second-in-If-clause-listed t c =
    let S : List Signal = c.args.design.now.signals.items in
    if-listed (λ l. l.items) c.meet.result (length S) (length c.read_statement-in-If.new.walk.empty) c.deref-in-If-3.result.now c.in_ok-first-in-If.first.items c.deref-in-If-4.result.now c.in_ok-second-in-If.second.items
    (λ s b. assigns S s b c.deref-in-If.result.now) (λ s b. assigns S s b c.deref-in-If-2.result.now) (λ s b. assigns S s b c.args.statement.now)
    c.meet.ensures.listed c.in_ok-second-in-If.ensures.gone.fit.empty_long c.deref-in-If-3.ensures.value c.deref-in-If-4.ensures.value c.in_ok-first-in-If.ensures.listed c.in_ok-second-in-If.ensures.listed
    (λ s b.
    ap₂ (λ p q. assigns S s b p && assigns S s b q) c.deref-in-If.ensures c.deref-in-If-2.ensures ∙ sym (if-assigns S s b c.in-If.cond c.in-If.yes c.in-If.no)
    ∙ ap (assigns S s b) (sym c.in-If.is))

pub read_statement-returns-in_ok-shared-in-Case-clause-gone : goal.read_statement-returns-in_ok-shared-in-Case-clause-gone
read_statement-returns-in_ok-shared-in-Case-clause-gone t c =
    let S : List Signal = c.args.design.now.signals.items in
    case-gone (length S) c.args.walk.now c.read-in-Case.new.walk c.read_statement-in-Case.new.walk c.read_items.new.walk
    (λ s b. reads S s b c.in-Case.subject) (λ s b. statement_reads S s b c.deref-in-Case.result.now) (λ s b. list_any (item_reads S s b) c.deref-in-Case-5.result.now) (λ s b. statement_reads S s b c.args.statement.now)
    c.in_ok-read-in-Case.ensures c.in_ok-last-in-Case.ensures.gone c.in_ok-shared-in-Case.ensures.gone
    (λ s b.
    ap₂ (λ is o. reads S s b c.in-Case.subject || (list_any (item_reads S s b) is || statement_reads S s b o)) c.deref-in-Case-5.ensures c.deref-in-Case.ensures
    ∙ sym (case-reads S s b c.in-Case.subject c.in-Case.items c.in-Case.other c.in-Case.wild) ∙ ap (statement_reads S s b) (sym c.in-Case.is))

pub read_statement-returns-in_ok-shared-in-Case-clause-listed : goal.read_statement-returns-in_ok-shared-in-Case-clause-listed
read_statement-returns-in_ok-shared-in-Case-clause-listed t c =
    let S : List Signal = c.args.design.now.signals.items in
    let k = c.in-Case in
    let start = c.before_items-start.result in
    let full_same = c.in_ok-full-in-Case.ensures.full
    ∙ ap₂ (λ g is. is_full_of g k.subject is) c.deref-in-Case-2.ensures.value c.deref-in-Case-3.ensures ∙ sym (full-list S k.subject k.items) in
    case-listed (length S) start c.in_ok-shared-in-Case.shared c.deref-in-Case-5.result.now c.in_ok-full-in-Case.full (is_nothing c.deref-in-Case-4.result.now)
    (λ s b. assigns S s b c.deref-in-Case.result.now) (λ s b. list_all (item_assigns S s b) c.deref-in-Case-5.result.now) (λ s b. assigns S s b c.args.statement.now)
    c.in_ok-shared-in-Case.ensures.shared c.in_ok-shared-in-Case.ensures.every c.before_items-start.ensures.every (rw c.before_items-start.ensures.list c.in_ok-last-in-Case.ensures.listed)
    (rw (c.deref-in-Case-5.ensures, sym c.deref-in-Case-3.ensures) c.in_ok-full-in-Case.ensures.some)
    (λ s b.
    ap₂ (λ is o. list_all (item_assigns S s b) is && ((is_nothing c.deref-in-Case-4.result.now && c.in_ok-full-in-Case.full) || assigns S s b o)) c.deref-in-Case-5.ensures c.deref-in-Case.ensures
    ∙ ap₂ (λ n f. list_all (item_assigns S s b) k.items && ((n && f) || assigns S s b k.other)) (ap is_nothing c.deref-in-Case-4.ensures) full_same
    ∙ sym (case-assigns S s b k.subject k.items k.other k.wild) ∙ ap (assigns S s b) (sym k.is))

pub read_statement-returns-in_ok-list-in-Set-clause-gone : goal.read_statement-returns-in_ok-list-in-Set-clause-gone
read_statement-returns-in_ok-list-in-Set-clause-gone t c =
    let S : List Signal = c.args.design.now.signals.items in
    gone-named (length S) c.args.walk.now c.read_assignment.new.walk (λ s b. reads S s b c.in-Set.value || list_any (part_reads S s b) c.deref-in-Set.result.now) (λ s b. statement_reads S s b c.args.statement.now)
    c.in_ok-read_assignment-in-Set.ensures
    (λ s b. ap (λ ps. reads S s b c.in-Set.value || list_any (part_reads S s b) ps) c.deref-in-Set.ensures ∙ ap (statement_reads S s b) (sym c.in-Set.is))

pub read_statement-returns-in_ok-list-in-Set-clause-listed : goal.read_statement-returns-in_ok-list-in-Set-clause-listed
read_statement-returns-in_ok-list-in-Set-clause-listed t c =
    let S : List Signal = c.args.design.now.signals.items in
    set-listed (length S) c.deref-in-Set-2.result.now S c.deref-in-Set-3.result.now c.in-Set.target.parts c.in_ok-list-in-Set.list.items c.at_once.result.items c.in-Set.later (λ s b. assigns S s b c.args.statement.now)
    refl c.deref-in-Set-2.ensures.value c.deref-in-Set-3.ensures c.in_ok-list-in-Set.ensures c.at_once.ensures (λ s b. ap (assigns S s b) (sym c.in-Set.is))
