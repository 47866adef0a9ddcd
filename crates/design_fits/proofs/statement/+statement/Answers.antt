use Rattle.std.proofs.Common.{◌∙◌, ap, sym}
use Rattle.std.specs.List.{list_all}
use Rattle.design_core.proofs.StatementSteps.{fits_if}
use Rattle.design_core.specs.WellFormed.{statement_fits}
use Rattle.plain_values.specs.Evaluate.{item_fits}
use Rattle.plain_values.proofs.EvaluateStatement.{block-fits}
use Rattle.design_fits.proofs.FitLaws.{case-first, case-bad, case-last}
use Rattle.design_fits.proofs.TestLaws.{three}
use Rattle.design_fits.proofs.statement.+statement.Goals as goal

pub statement_fits-returns-in-Block : goal.statement_fits-returns-in-Block
statement_fits-returns-in-Block t c =
    rw c.in-Block.is
    (c.statements_fit.ensures
    ∙ ap (list_all (statement_fits c.args.signals.now c.args.places.now)) c.deref.ensures
    ∙ sym (block-fits c.args.signals.now c.args.places.now c.in-Block.statements))

pub statement_fits-returns-then-not-items_fit : goal.statement_fits-returns-then-not-items_fit
statement_fits-returns-then-not-items_fit t c =
    rw c.in-Case.is
    (case-bad c.args.signals.now c.args.places.now c.in-Case.subject c.in-Case.items c.in-Case.other c.in-Case.wild
    (sym (ap (list_all (item_fits c.args.signals.now c.args.places.now c.in-Case.subject.width)) c.deref-in-Case.ensures) ∙ sym c.items_fit.ensures ∙ c.if-not-items_fit.true))

pub statement_fits-returns-else-not-items_fit : goal.statement_fits-returns-else-not-items_fit
statement_fits-returns-else-not-items_fit t c =
    rw c.in-Case.is
    (c.statement_fits-in-Case.ensures
    ∙ ap (statement_fits c.args.signals.now c.args.places.now) c.deref-in-Case-2.ensures
    ∙ case-last c.args.signals.now c.args.places.now c.in-Case.subject c.in-Case.items c.in-Case.other c.in-Case.wild
    (sym c.typed_fits-in-Case.ensures ∙ c.if-not-typed_fits.false)
    (sym (ap (list_all (item_fits c.args.signals.now c.args.places.now c.in-Case.subject.width)) c.deref-in-Case.ensures) ∙ sym c.items_fit.ensures ∙ c.if-not-items_fit.false))

pub statement_fits-returns-in-If : goal.statement_fits-returns-in-If
statement_fits-returns-in-If t c =
    let S = c.args.signals.now in
    let P = c.args.places.now in
    rw c.in-If.is
    (three _ _ _ _ _ _
    c.typed_fits.ensures
    (c.statement_fits.ensures ∙ ap (statement_fits S P) c.deref-in-If.ensures)
    (c.statement_fits-in-If.ensures ∙ ap (statement_fits S P) c.deref-in-If-2.ensures)
    ∙ sym (fits_if S P c.in-If.cond c.in-If.yes c.in-If.no))

pub statement_fits-returns-then-not-typed_fits : goal.statement_fits-returns-then-not-typed_fits
statement_fits-returns-then-not-typed_fits t c =
    rw c.in-Case.is
    (case-first c.args.signals.now c.args.places.now c.in-Case.subject c.in-Case.items c.in-Case.other c.in-Case.wild
    (sym c.typed_fits-in-Case.ensures ∙ c.if-not-typed_fits.true))
