use Rattle.std.proofs.Common.{◌∙◌, ap, rules, sym, arith, List, refl, length, get_or}
use Rattle.std.specs.Prelude.{if◌then◌else◌}
use Rattle.std.proofs.lemmas.Option.{slice_get_read}
use Rattle.design_core.specs.declared.signal.Signal.{Signal}
use Rattle.design_core.specs.declared.place.Place.{Place}
use Rattle.design_core.specs.declared.statement.CaseItem.{CaseItem}
use Rattle.design_core.specs.declared.statement.Stmt.TheViews.{the_lemmas}
use Rattle.design_core.specs.Operator.{is_true}
use Rattle.design_core.specs.Value.{value}
use Rattle.design_core.specs.Store.{parts_width}
use Rattle.design_core.specs.After.{Choice, Updates, after}
use Rattle.design_core.specs.WellFormed.{assignment_fits, statement_fits}
use Rattle.design_core.specs.Words.{valuation_of, choice_of}
use Rattle.design_core.proofs.StatementSteps.{after_if}
use Rattle.plain_values.specs.Evaluate.{after_list}
use Rattle.plain_values.proofs.EvaluateStore.{updates}
use Rattle.plain_values.proofs.EvaluateStatement.{block-value, block-fits, if-fits, case-value, case-fits, case-ends, body-fits, place-within, after_item}
use Rattle.plain_values.proofs.statement.+run.Goals as goal

pub run_statement-run_all-requires : goal.run_statement-run_all-requires
run_statement-run_all-requires t c =
    let signals : List Signal = c.args.design.now.signals.items in
    let places : List Place = c.args.design.now.places.items in
    let fits = sym (block-fits signals places c.in-Block.statements) ∙ (rw c.in-Block.is at c.requires.fits) in
    (search (rules, the_lemmas), (c.requires.now, (c.requires.later, (c.requires.freed, (c.requires.chosen, rw c.deref.ensures fits)))))

pub run_statement-returns-in-Block-clause-value : goal.run_statement-returns-in-Block-clause-value
run_statement-returns-in-Block-clause-value t c =
    let signals : List Signal = c.args.design.now.signals.items in
    let choice : Choice = choice_of c.args.freed.now c.args.chosen.now in
    let m : Updates = updates (valuation_of c.args.now.now) (valuation_of c.args.later.now) in
    rw c.in-Block.is
    (c.run_all.ensures.value ∙ ap (λ ss. after_list signals choice ss m) c.deref.ensures ∙ sym (block-value signals choice c.in-Block.statements m))

pub run_statement-matching_item-requires-clause-fits : goal.run_statement-matching_item-requires-clause-fits
run_statement-matching_item-requires-clause-fits t c =
    let signals : List Signal = c.args.design.now.signals.items in
    let places : List Place = c.args.design.now.places.items in
    let fits = case-fits signals places c.in-Case.subject c.in-Case.items c.in-Case.other c.in-Case.wild (rw c.in-Case.is at c.requires.fits) in
    rw (c.deref-in-Case-2.ensures, c.value-subject.ensures.width) fits

pub run_statement-run_statement-requires-in-Some : goal.run_statement-run_statement-requires-in-Some
run_statement-run_statement-requires-in-Some t c =
    let signals : List Signal = c.args.design.now.signals.items in
    let places : List Place = c.args.design.now.places.items in
    let fits = case-fits signals places c.in-Case.subject c.in-Case.items c.in-Case.other c.in-Case.wild (rw c.in-Case.is at c.requires.fits) in
    let is = c.index-deref-i.is ∙ ap (λ xs. get_or xs c.in-Some.i c.index-deref-i.result) c.deref-in-Some.ensures in
    let within = rw c.deref-in-Case-2.ensures at c.in-Some.ensures.within in (
      search (rules, the_lemmas),
      (
        c.requires.now,
        (
          c.requires.later,
          (
            c.requires.freed,
            (
              c.requires.chosen,
              sym (ap (λ (item : CaseItem). statement_fits signals places item.body) c.index-deref-i.is)
                  ∙ body-fits signals places c.in-Case.subject.width c.in-Case.items c.in-Some.i c.index-deref-i.result fits within is,
            ),
          ),
        ),
      ),
    )

pub run_statement-returns-in-Some-clause-value : goal.run_statement-returns-in-Some-clause-value
run_statement-returns-in-Some-clause-value t c =
    let signals : List Signal = c.args.design.now.signals.items in
    let choice : Choice = choice_of c.args.freed.now c.args.chosen.now in
    let m : Updates = updates (valuation_of c.args.now.now) (valuation_of c.args.later.now) in
    let other : Updates = after signals choice c.in-Case.other m in
    let is = c.index-deref-i.is ∙ ap (λ xs. get_or xs c.in-Some.i c.index-deref-i.result) c.deref-in-Some.ensures in
    let within = rw c.deref-in-Case-2.ensures at c.in-Some.ensures.within in
    let first = rw (c.deref-in-Case-2.ensures, c.value-subject.ensures.value, c.deref-in-Case.ensures.value) at c.in-Some.ensures.first in
    rw c.in-Case.is
    (c.run_statement-in-Some.ensures.value
    ∙ ap (λ (item : CaseItem). after signals choice item.body m) (sym c.index-deref-i.is)
    ∙ ap (after_item signals choice m other) (sym (slice_get_read c.in-Case.items (length c.in-Case.items) c.in-Some.i c.index-deref-i.result refl within is) ∙ first)
    ∙ sym (case-value signals choice c.in-Case.subject c.in-Case.items c.in-Case.other c.in-Case.wild m))

pub run_statement-returns-in-None-clause-value : goal.run_statement-returns-in-None-clause-value
run_statement-returns-in-None-clause-value t c =
    let signals : List Signal = c.args.design.now.signals.items in
    let choice : Choice = choice_of c.args.freed.now c.args.chosen.now in
    let m : Updates = updates (valuation_of c.args.now.now) (valuation_of c.args.later.now) in
    let other : Updates = after signals choice c.in-Case.other m in
    let first = rw (c.deref-in-Case-2.ensures, c.value-subject.ensures.value, c.deref-in-Case.ensures.value) at c.in-None.ensures.first in
    rw c.in-Case.is
    (c.run_statement-in-None.ensures.value
    ∙ ap (λ s. after signals choice s m) c.deref-in-None.ensures
    ∙ ap (after_item signals choice m other) first
    ∙ sym (case-value signals choice c.in-Case.subject c.in-Case.items c.in-Case.other c.in-Case.wild m))

pub run_statement-assigned-word-requires-clause-freed : goal.run_statement-assigned-word-requires-clause-freed
run_statement-assigned-word-requires-clause-freed t c =
    let signals : List Signal = c.args.design.now.signals.items in
    let places : List Place = c.args.design.now.places.items in
    let within = place-within places (parts_width signals c.in-Set.target.parts) c.in-Set.place (assignment_fits signals c.in-Set.target.parts c.in-Set.computed) (rw c.in-Set.is at c.requires.fits) in
    omega (arith, within, c.requires.freed)

pub run_statement-assigned-word-requires-clause-chosen : goal.run_statement-assigned-word-requires-clause-chosen
run_statement-assigned-word-requires-clause-chosen t c =
    let signals : List Signal = c.args.design.now.signals.items in
    let places : List Place = c.args.design.now.places.items in
    let within = place-within places (parts_width signals c.in-Set.target.parts) c.in-Set.place (assignment_fits signals c.in-Set.target.parts c.in-Set.computed) (rw c.in-Set.is at c.requires.fits) in
    omega (arith, within, c.requires.chosen)

pub run_statement-holds-requires-clause-fits : goal.run_statement-holds-requires-clause-fits
run_statement-holds-requires-clause-fits t c =
    let signals : List Signal = c.args.design.now.signals.items in
    let places : List Place = c.args.design.now.places.items in
    let fits = if-fits signals places c.in-If.cond c.in-If.yes c.in-If.no (rw c.in-If.is at c.requires.fits) in rw c.deref-in-If.ensures.value fits.0

pub run_statement-run_statement-requires : goal.run_statement-run_statement-requires
run_statement-run_statement-requires t c =
    let signals : List Signal = c.args.design.now.signals.items in
    let places : List Place = c.args.design.now.places.items in
    let fits = if-fits signals places c.in-If.cond c.in-If.yes c.in-If.no (rw c.in-If.is at c.requires.fits) in
    (search (rules, the_lemmas), (c.requires.now, (c.requires.later, (c.requires.freed, (c.requires.chosen, rw c.deref-then-holds.ensures fits.1.0)))))

pub run_statement-run_statement-requires-else-holds : goal.run_statement-run_statement-requires-else-holds
run_statement-run_statement-requires-else-holds t c =
    let signals : List Signal = c.args.design.now.signals.items in
    let places : List Place = c.args.design.now.places.items in
    let fits = if-fits signals places c.in-If.cond c.in-If.yes c.in-If.no (rw c.in-If.is at c.requires.fits) in
    (search (rules, the_lemmas), (c.requires.now, (c.requires.later, (c.requires.freed, (c.requires.chosen, rw c.deref-else-holds.ensures fits.1.1)))))

pub run_statement-value-subject-requires-clause-fits : goal.run_statement-value-subject-requires-clause-fits
run_statement-value-subject-requires-clause-fits t c =
    let signals : List Signal = c.args.design.now.signals.items in
    let places : List Place = c.args.design.now.places.items in
    let fits = case-ends signals places c.in-Case.subject c.in-Case.items c.in-Case.other c.in-Case.wild (rw c.in-Case.is at c.requires.fits) in rw c.deref-in-Case.ensures.value fits.0

pub run_statement-run_statement-requires-in-None : goal.run_statement-run_statement-requires-in-None
run_statement-run_statement-requires-in-None t c =
    let signals : List Signal = c.args.design.now.signals.items in
    let places : List Place = c.args.design.now.places.items in
    let fits = case-ends signals places c.in-Case.subject c.in-Case.items c.in-Case.other c.in-Case.wild (rw c.in-Case.is at c.requires.fits) in
    (search (rules, the_lemmas), (c.requires.now, (c.requires.later, (c.requires.freed, (c.requires.chosen, rw c.deref-in-None.ensures fits.1)))))

pub run_statement-returns-then-holds-clause-value : goal.run_statement-returns-then-holds-clause-value
run_statement-returns-then-holds-clause-value t c =
    let signals : List Signal = c.args.design.now.signals.items in
    let choice : Choice = choice_of c.args.freed.now c.args.chosen.now in
    let m : Updates = updates (valuation_of c.args.now.now) (valuation_of c.args.later.now) in
    let test = c.if-holds.ensures ∙ ap (λ ss. is_true (value ss m.now c.in-If.cond)) c.deref-in-If.ensures.value in
    rw c.in-If.is
    (c.run_statement.ensures.value
    ∙ ap (λ s. after signals choice s m) c.deref-then-holds.ensures
    ∙ ap (λ b. if b then after signals choice c.in-If.yes m else after signals choice c.in-If.no m) test
    ∙ sym (after_if signals choice c.in-If.cond c.in-If.yes c.in-If.no m))

pub run_statement-returns-else-holds-clause-value : goal.run_statement-returns-else-holds-clause-value
run_statement-returns-else-holds-clause-value t c =
    let signals : List Signal = c.args.design.now.signals.items in
    let choice : Choice = choice_of c.args.freed.now c.args.chosen.now in
    let m : Updates = updates (valuation_of c.args.now.now) (valuation_of c.args.later.now) in
    let test = c.if-holds.ensures ∙ ap (λ ss. is_true (value ss m.now c.in-If.cond)) c.deref-in-If.ensures.value in
    rw c.in-If.is
    (c.run_statement-else-holds.ensures.value
    ∙ ap (λ s. after signals choice s m) c.deref-else-holds.ensures
    ∙ ap (λ b. if b then after signals choice c.in-If.yes m else after signals choice c.in-If.no m) test
    ∙ sym (after_if signals choice c.in-If.cond c.in-If.yes c.in-If.no m))
