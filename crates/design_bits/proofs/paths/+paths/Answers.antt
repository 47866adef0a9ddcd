use Rattle.std.proofs.Common.{◌∙◌, ap, ap₂, sym, refl, rules, List, length, true}
use Rattle.std.specs.Prelude.{◌||◌, ◌&&◌}
use Rattle.std.specs.List.{list_any, list_all}
use Rattle.design_core.specs.declared.signal.Signal.{Signal}
use Rattle.design_core.specs.declared.place.Place.{Place}
use Rattle.design_core.specs.declared.statement.Stmt.TheViews.{the_lemmas}
use Rattle.design_core.specs.Reads.{assigns_either_way, is_nothing}
use Rattle.plain_values.proofs.EvaluateStatement.{block-fits, if-fits, case-fits, case-ends}
use Rattle.design_bits.specs.Full.{is_full_of}
use Rattle.design_bits.specs.Paths.{item_either_way}
use Rattle.design_bits.proofs.CaseLaws.{bodies-fit, labels-fit, full-list, if-listed, case-listed}
use Rattle.design_bits.proofs.EitherWay.{block-paths, if-paths, case-paths, kept-both, if-kept, list-turn, list-items-turn, set-either}
use Rattle.design_bits.proofs.WaitLaws.{if-ok, lists-named}
use Rattle.design_bits.proofs.paths.+paths.Goals as goal

pub list_block-loop-statement-preserved : goal.list_block-loop-statement-preserved
list_block-loop-statement-preserved t c = (
  kept-both _ _ _ _ c.loop-statement.invariant.0 c.in_ok-own.ensures.kept,
  list-turn _ _ c.in_ok-own.own.items _ _ c.args.design.now.signals.items c.args.statements.now c.loop-statement.statement-index c.statement-item.result c.loop-statement-test.true c.statement-item.is
      c.loop-statement.invariant.1 c.in_ok-own.ensures.listed c.deref.ensures.value c.in_ok-append.ensures,
)

pub list_items-loop-item-preserved : goal.list_items-loop-item-preserved
list_items-loop-item-preserved t c =
    let S = c.args.design.now.signals.items in
    list-items-turn (length S) c.args.walk.now c.loop-item.walk c.list_statement.new.walk c.share.new.walk c.args.start c.loop-item.shared c.in_ok-shared.shared c.in_ok-own.own.items S
    c.args.items.now c.loop-item.item-index c.item-item.result c.loop-item-test.true c.item-item.is c.loop-item.invariant
    c.in_ok-own.ensures.kept c.in_ok-own.ensures.listed c.in_ok-shared.ensures.sure c.in_ok-shared.ensures.reads c.in_ok-shared.ensures.long c.in_ok-shared.ensures.empty
    c.in_ok-shared.ensures.every c.in_ok-shared.ensures.shared

pub list_statement-list_block-requires : goal.list_statement-list_block-requires
list_statement-list_block-requires t c =
    let S : List Signal = c.args.design.now.signals.items in
    let P : List Place = c.args.design.now.places.items in
    let fits = sym (block-fits S P c.in-Block.statements) ∙ (rw c.in-Block.is at c.requires.fits) in
    (search (rules, the_lemmas), (c.requires.walk, rw c.deref.ensures fits))

pub list_statement-list_statement-requires : goal.list_statement-list_statement-requires
list_statement-list_statement-requires t c =
    let S : List Signal = c.args.design.now.signals.items in
    let P : List Place = c.args.design.now.places.items in
    let fits = if-fits S P c.in-If.cond c.in-If.yes c.in-If.no (rw c.in-If.is at c.requires.fits) in
    (search (rules, the_lemmas), (c.requires.walk, rw c.deref-in-If.ensures fits.1.0))

pub list_statement-list_statement-requires-in-If : goal.list_statement-list_statement-requires-in-If
list_statement-list_statement-requires-in-If t c =
    let S : List Signal = c.args.design.now.signals.items in
    let P : List Place = c.args.design.now.places.items in
    let fits = if-fits S P c.in-If.cond c.in-If.yes c.in-If.no (rw c.in-If.is at c.requires.fits) in
    (search (rules, the_lemmas), (c.in_ok-first-in-If.ensures.kept.fit, rw c.deref-in-If-2.ensures fits.1.1))

pub list_statement-list_statement-requires-in-Case : goal.list_statement-list_statement-requires-in-Case
list_statement-list_statement-requires-in-Case t c =
    let S : List Signal = c.args.design.now.signals.items in
    let P : List Place = c.args.design.now.places.items in
    let fits = case-ends S P c.in-Case.subject c.in-Case.items c.in-Case.other c.in-Case.wild (rw c.in-Case.is at c.requires.fits) in
    (search (rules, the_lemmas), (c.requires.walk, rw c.deref-in-Case.ensures fits.1))

pub list_statement-is_full-requires-clause-subject : goal.list_statement-is_full-requires-clause-subject
list_statement-is_full-requires-clause-subject t c =
    let S : List Signal = c.args.design.now.signals.items in
    let P : List Place = c.args.design.now.places.items in
    let fits = case-ends S P c.in-Case.subject c.in-Case.items c.in-Case.other c.in-Case.wild (rw c.in-Case.is at c.requires.fits) in
    rw c.deref-in-Case-2.ensures.value fits.0

pub list_statement-is_full-requires-clause-fits : goal.list_statement-is_full-requires-clause-fits
list_statement-is_full-requires-clause-fits t c =
    let S : List Signal = c.args.design.now.signals.items in
    let P : List Place = c.args.design.now.places.items in
    let fits = labels-fit S P c.in-Case.subject.width c.in-Case.items (case-fits S P c.in-Case.subject c.in-Case.items c.in-Case.other c.in-Case.wild (rw c.in-Case.is at c.requires.fits)) in
    rw (c.deref-in-Case-2.ensures.value, c.deref-in-Case-3.ensures) fits

pub list_statement-list_items-requires : goal.list_statement-list_items-requires
list_statement-list_items-requires t c =
    let S : List Signal = c.args.design.now.signals.items in
    let P : List Place = c.args.design.now.places.items in
    let fits = bodies-fit S P c.in-Case.subject.width c.in-Case.items (case-fits S P c.in-Case.subject c.in-Case.items c.in-Case.other c.in-Case.wild (rw c.in-Case.is at c.requires.fits)) in
    (search (rules, the_lemmas), (c.in_ok-last-in-Case.ensures.kept.fit, rw c.deref-in-Case-5.ensures fits))

pub list_statement-returns-in-Block-clause-listed : goal.list_statement-returns-in-Block-clause-listed
list_statement-returns-in-Block-clause-listed t c =
    let S : List Signal = c.args.design.now.signals.items in
    if-ok c.list_block.result _ _
    (λ list one.
    lists-named _ _ (λ s b. list_any (assigns_either_way S s b) c.deref.result.now) (λ s b. assigns_either_way S s b c.args.statement.now) one
    (λ s b. ap (list_any (assigns_either_way S s b)) c.deref.ensures ∙ sym (block-paths S s b c.in-Block.statements) ∙ ap (assigns_either_way S s b) (sym c.in-Block.is)))
    c.list_block.ensures.listed

pub list_statement-returns-in_ok-second-in-If-clause-kept : goal.list_statement-returns-in_ok-second-in-If-clause-kept
list_statement-returns-in_ok-second-in-If-clause-kept t c =
    let S : List Signal = c.args.design.now.signals.items in
    if-kept c.meet.result (length S) c.args.walk.now c.list_statement-in-If.new.walk c.meet.new.walk
    (kept-both (length S) c.args.walk.now c.list_statement.new.walk c.list_statement-in-If.new.walk c.in_ok-first-in-If.ensures.kept c.in_ok-second-in-If.ensures.kept)
    c.meet.ensures.sure c.meet.ensures.reads c.meet.ensures.long c.meet.ensures.empty

pub list_statement-returns-in_ok-second-in-If-clause-listed : goal.list_statement-returns-in_ok-second-in-If-clause-listed
list_statement-returns-in_ok-second-in-If-clause-listed t c =
    let S : List Signal = c.args.design.now.signals.items in
    if-listed (λ l. l.items) c.meet.result (length S) (length c.list_statement-in-If.new.walk.empty) c.deref-in-If-3.result.now c.in_ok-first-in-If.first.items c.deref-in-If-4.result.now c.in_ok-second-in-If.second.items
    (λ s b. assigns_either_way S s b c.deref-in-If.result.now) (λ s b. assigns_either_way S s b c.deref-in-If-2.result.now) (λ s b. assigns_either_way S s b c.args.statement.now)
    c.meet.ensures.listed c.in_ok-second-in-If.ensures.kept.fit.empty_long c.deref-in-If-3.ensures.value c.deref-in-If-4.ensures.value c.in_ok-first-in-If.ensures.listed c.in_ok-second-in-If.ensures.listed
    (λ s b.
    ap₂ (λ p q. assigns_either_way S s b p && assigns_either_way S s b q) c.deref-in-If.ensures c.deref-in-If-2.ensures ∙ sym (if-paths S s b c.in-If.cond c.in-If.yes c.in-If.no)
    ∙ ap (assigns_either_way S s b) (sym c.in-If.is))

pub list_statement-returns-in_ok-shared-in-Case-clause-kept : goal.list_statement-returns-in_ok-shared-in-Case-clause-kept
list_statement-returns-in_ok-shared-in-Case-clause-kept t c =
    kept-both (length c.args.design.now.signals.items) c.args.walk.now c.list_statement-in-Case.new.walk c.list_items.new.walk c.in_ok-last-in-Case.ensures.kept c.in_ok-shared-in-Case.ensures.kept

pub list_statement-returns-in_ok-shared-in-Case-clause-listed : goal.list_statement-returns-in_ok-shared-in-Case-clause-listed
list_statement-returns-in_ok-shared-in-Case-clause-listed t c =
    let S : List Signal = c.args.design.now.signals.items in
    let k = c.in-Case in
    let start = c.before_items-start.result in
    let full_same = c.in_ok-full-in-Case.ensures.full
    ∙ ap₂ (λ g is. is_full_of g k.subject is) c.deref-in-Case-2.ensures.value c.deref-in-Case-3.ensures ∙ sym (full-list S k.subject k.items) in
    case-listed (length S) start c.in_ok-shared-in-Case.shared c.deref-in-Case-5.result.now c.in_ok-full-in-Case.full (is_nothing c.deref-in-Case-4.result.now)
    (λ s b. assigns_either_way S s b c.deref-in-Case.result.now) (λ s b. list_all (item_either_way S s b) c.deref-in-Case-5.result.now) (λ s b. assigns_either_way S s b c.args.statement.now)
    c.in_ok-shared-in-Case.ensures.shared c.in_ok-shared-in-Case.ensures.every c.before_items-start.ensures.every (rw c.before_items-start.ensures.list c.in_ok-last-in-Case.ensures.listed)
    (rw (c.deref-in-Case-5.ensures, sym c.deref-in-Case-3.ensures) c.in_ok-full-in-Case.ensures.some)
    (λ s b.
    ap₂ (λ is o. list_all (item_either_way S s b) is && ((is_nothing c.deref-in-Case-4.result.now && c.in_ok-full-in-Case.full) || assigns_either_way S s b o)) c.deref-in-Case-5.ensures c.deref-in-Case.ensures
    ∙ ap₂ (λ n f. list_all (item_either_way S s b) k.items && ((n && f) || assigns_either_way S s b k.other)) (ap is_nothing c.deref-in-Case-4.ensures) full_same
    ∙ sym (case-paths S s b k.subject k.items k.other k.wild) ∙ ap (assigns_either_way S s b) (sym k.is))

pub list_statement-returns-in_ok-list-in-Set-clause-listed : goal.list_statement-returns-in_ok-list-in-Set-clause-listed
list_statement-returns-in_ok-list-in-Set-clause-listed t c =
    let S : List Signal = c.args.design.now.signals.items in
    set-either (length S) c.deref-in-Set.result.now S c.deref-in-Set-2.result.now c.in-Set.target.parts c.in_ok-list-in-Set.list.items (λ s b. assigns_either_way S s b c.args.statement.now)
    refl c.deref-in-Set.ensures.value c.deref-in-Set-2.ensures c.in_ok-list-in-Set.ensures (λ s b. ap (assigns_either_way S s b) (sym c.in-Set.is))
