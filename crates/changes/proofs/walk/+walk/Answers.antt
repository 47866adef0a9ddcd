use Rattle.std.proofs.Common.{◌≡◌, ◌∙◌, ap, rules, sym, arith, ℕ, List, refl, length, get_or, Some, None, find}
use Rattle.std.proofs.lemmas.Option.{slice_get_read}
use Rattle.design_core.specs.declared.signal.Signal.{Signal}
use Rattle.design_core.specs.declared.place.Place.{Place}
use Rattle.design_core.specs.declared.design.Design.{Design}
use Rattle.design_core.specs.declared.statement.CaseItem.{CaseItem}
use Rattle.design_core.specs.declared.statement.Stmt.TheViews.{the_lemmas}
use Rattle.design_core.specs.Value.{value}
use Rattle.design_core.specs.Store.{parts_width}
use Rattle.design_core.specs.After.{Choice, Updates, after}
use Rattle.design_core.specs.WellFormed.{assignment_fits, statement_fits}
use Rattle.plain_values.specs.Evaluate.{item_matches}
use Rattle.plain_values.proofs.EvaluateStatement.{block-fits, if-fits, case-fits, case-ends, body-fits, place-within}
use Rattle.changes.specs.Execution.{executed_in}
use Rattle.changes.specs.Moments.{as_updates, choice_in}
use Rattle.changes.proofs.WalkSteps.{walks-block, walks-here, walks-true, walks-false, walks-item, walks-other}
use Rattle.changes.proofs.walk.+walk.Goals as goal

pub walk-walk_all-requires : goal.walk-walk_all-requires
walk-walk_all-requires t c =
    let d : Design = c.args.seek.now.moment.design.now in
    let fits = sym (block-fits d.signals.items d.places.items c.in-Block.statements) ∙ (rw c.in-Block.is at c.requires.fits) in
    (search (rules, the_lemmas), (c.requires.moment, (c.requires.now, (c.requires.later, rw c.deref.ensures fits))))

pub walk-returns-in-Block-clause-walks : goal.walk-returns-in-Block-clause-walks
walk-returns-in-Block-clause-walks t c =
    let d : Design = c.args.seek.now.moment.design.now in
    let m : Updates = as_updates c.args.now.now c.args.later.now in
    rw c.in-Block.is
    (walks-block d (choice_in c.args.seek.now.moment) c.args.seek.now.place c.in-Block.statements m _
    c.walk_all.new.now c.walk_all.new.later
    (rw c.deref.ensures at c.walk_all.ensures.walks))

pub walk-walk_if-requires : goal.walk-walk_if-requires
walk-walk_if-requires t c =
    let d : Design = c.args.seek.now.moment.design.now in
    let fits = if-fits d.signals.items d.places.items c.in-If.cond c.in-If.yes c.in-If.no
    (rw c.in-If.is at c.requires.fits) in (
      search (rules, the_lemmas),
      (
        c.requires.moment,
        (
          c.requires.now,
          (
            c.requires.later,
            (fits.0, (rw c.deref-in-If.ensures fits.1.0, rw c.deref-in-If-2.ensures fits.1.1)),
          ),
        ),
      ),
    )

pub walk-walk_case-requires : goal.walk-walk_case-requires
walk-walk_case-requires t c =
    let d : Design = c.args.seek.now.moment.design.now in
    let items = case-fits d.signals.items d.places.items c.in-Case.subject c.in-Case.items c.in-Case.other c.in-Case.wild
    (rw c.in-Case.is at c.requires.fits) in
    let ends = case-ends d.signals.items d.places.items c.in-Case.subject c.in-Case.items c.in-Case.other c.in-Case.wild
    (rw c.in-Case.is at c.requires.fits) in (
      search (rules, the_lemmas),
      (
        c.requires.moment,
        (
          c.requires.now,
          (
            c.requires.later,
            (ends.0, (rw c.deref-in-Case.ensures items, rw c.deref-in-Case-2.ensures ends.1)),
          ),
        ),
      ),
    )

pub walk-returns-then-place-seek-clause-walks : goal.walk-returns-then-place-seek-clause-walks
walk-returns-then-place-seek-clause-walks t c =
    let d : Design = c.args.seek.now.moment.design.now in
    rw c.in-Set.is
    (walks-here d (choice_in c.args.seek.now.moment) c.args.seek.now.place c.in-Set.place c.in-Set.target c.in-Set.value c.in-Set.is_later
    c.args.now.now c.args.later.now c.if-place-seek.true (rw c.in-Set.is at c.requires.fits))

pub walk-taken-word-requires-clause-place : goal.walk-taken-word-requires-clause-place
walk-taken-word-requires-clause-place t c =
    let d : Design = c.args.seek.now.moment.design.now in
    place-within d.places.items (parts_width d.signals.items c.in-Set.target.parts) c.in-Set.place
    (assignment_fits d.signals.items c.in-Set.target.parts c.in-Set.value) (rw c.in-Set.is at c.requires.fits)

pub walk_if-walk-requires : goal.walk_if-walk-requires
walk_if-walk-requires t c =
    (search (rules, the_lemmas), (c.requires.moment, (c.requires.now, (c.requires.later, c.requires.yes))))

pub walk_if-walk-requires-else-value-ne0 : goal.walk_if-walk-requires-else-value-ne0
walk_if-walk-requires-else-value-ne0 t c =
    (search (rules, the_lemmas), (c.requires.moment, (c.requires.now, (c.requires.later, c.requires.no))))

pub walk_if-returns-then-value-ne0-clause-walks : goal.walk_if-returns-then-value-ne0-clause-walks
walk_if-returns-then-value-ne0-clause-walks t c =
    let d : Design = c.args.seek.now.moment.design.now in
    let m : Updates = as_updates c.args.now.now c.args.later.now in
    let number : c.value-2.result ≡ value d.signals.items m.now c.args.cond.now =
    c.value-2.ensures ∙ c.value.ensures.value ∙ ap (λ ss. value ss m.now c.args.cond.now) c.deref.ensures.value in
    walks-true d (choice_in c.args.seek.now.moment) c.args.seek.now.place c.args.cond.now c.args.yes.now c.args.no.now m _
    c.walk.new.now c.walk.new.later (λ zero. c.if-value-ne0.true (number ∙ zero)) c.walk.ensures.walks

pub walk_if-returns-else-value-ne0-clause-walks : goal.walk_if-returns-else-value-ne0-clause-walks
walk_if-returns-else-value-ne0-clause-walks t c =
    let d : Design = c.args.seek.now.moment.design.now in
    let m : Updates = as_updates c.args.now.now c.args.later.now in
    let number : c.value-2.result ≡ value d.signals.items m.now c.args.cond.now =
    c.value-2.ensures ∙ c.value.ensures.value ∙ ap (λ ss. value ss m.now c.args.cond.now) c.deref.ensures.value in
    walks-false d (choice_in c.args.seek.now.moment) c.args.seek.now.place c.args.cond.now c.args.yes.now c.args.no.now m _
    c.walk-else-value-ne0.new.now c.walk-else-value-ne0.new.later (sym number ∙ c.if-value-ne0.false) c.walk-else-value-ne0.ensures.walks

pub walk_case-walk-requires : goal.walk_case-walk-requires
walk_case-walk-requires t c =
    let d : Design = c.args.seek.now.moment.design.now in
    let body = sym (ap (λ (item : CaseItem). statement_fits d.signals.items d.places.items item.body) c.index-items-i.is)
    ∙ body-fits d.signals.items d.places.items c.args.subject.now.width c.args.items.now c.in-Some.i c.index-items-i.result
    c.requires.items c.in-Some.ensures.within c.index-items-i.is in
    (search (rules, the_lemmas), (c.requires.moment, (c.requires.now, (c.requires.later, body))))

pub walk_case-walk-requires-in-None : goal.walk_case-walk-requires-in-None
walk_case-walk-requires-in-None t c =
    (search (rules, the_lemmas), (c.requires.moment, (c.requires.now, (c.requires.later, c.requires.other))))

pub walk_case-returns-in-Some-clause-walks : goal.walk_case-returns-in-Some-clause-walks
walk_case-returns-in-Some-clause-walks t c =
    let d : Design = c.args.seek.now.moment.design.now in
    let m : Updates = as_updates c.args.now.now c.args.later.now in
    let first = rw (c.value-subject.ensures.value, c.deref.ensures.value) at c.in-Some.ensures.first in
    λ wild. walks-item d (choice_in c.args.seek.now.moment) c.args.seek.now.place c.args.subject.now c.args.items.now c.args.other.now
    wild m c.index-items-i.result _ c.walk.new.now c.walk.new.later
    (sym (slice_get_read c.args.items.now (length c.args.items.now) c.in-Some.i c.index-items-i.result refl c.in-Some.ensures.within
    c.index-items-i.is) ∙ first)
    (rw (sym c.index-items-i.is) at c.walk.ensures.walks)

pub walk_case-returns-in-None-clause-walks : goal.walk_case-returns-in-None-clause-walks
walk_case-returns-in-None-clause-walks t c =
    let d : Design = c.args.seek.now.moment.design.now in
    let m : Updates = as_updates c.args.now.now c.args.later.now in
    let first = rw (c.value-subject.ensures.value, c.deref.ensures.value) at c.in-None.ensures.first in
    λ wild. walks-other d (choice_in c.args.seek.now.moment) c.args.seek.now.place c.args.subject.now c.args.items.now c.args.other.now
    wild m _ c.walk-in-None.new.now c.walk-in-None.new.later first c.walk-in-None.ensures.walks
