use Rattle.std.proofs.Common.{◌∙◌, ap, sym}
use Rattle.std.specs.Prelude.{◌||◌}
use Rattle.std.specs.List.{list_any}
use Rattle.changes.specs.Lists.{item_stands, stands_in}
use Rattle.changes.proofs.StandRows.{block-stands, case-stands, if-stands, set-stands}
use Rattle.changes.proofs.stands.+has.Goals as goal

pub has_place-returns-in-Block : goal.has_place-returns-in-Block
has_place-returns-in-Block t c =
    rw c.in-Block.is
    (c.some_has_place.ensures ∙ ap (list_any (stands_in c.args.place)) c.deref.ensures ∙ sym
    (block-stands c.args.place c.in-Block.statements))

pub has_place-returns-then-item_has_place : goal.has_place-returns-then-item_has_place
has_place-returns-then-item_has_place t c =
    rw c.in-Case.is
    (c.if-item_has_place.true
    ∙ ap (λ b. b || stands_in c.args.place c.in-Case.other) (c.if-item_has_place.ensures ∙ ap
    (list_any (item_stands c.args.place)) c.deref-in-Case.ensures)
    ∙ sym (case-stands c.args.place c.in-Case.subject c.in-Case.items c.in-Case.other c.in-Case.wild))

pub has_place-returns-else-item_has_place : goal.has_place-returns-else-item_has_place
has_place-returns-else-item_has_place t c =
    rw c.in-Case.is
    (c.has_place-else-item_has_place.ensures
    ∙ ap (stands_in c.args.place) c.deref-else-item_has_place.ensures
    ∙ ap (λ b. b || stands_in c.args.place c.in-Case.other) (c.if-item_has_place.ensures ∙ ap
    (list_any (item_stands c.args.place)) c.deref-in-Case.ensures)
    ∙ sym (case-stands c.args.place c.in-Case.subject c.in-Case.items c.in-Case.other c.in-Case.wild))

pub has_place-returns-in-If : goal.has_place-returns-in-If
has_place-returns-in-If t c =
    rw c.in-If.is
    (ap (λ b. b || c.has_place-in-If.result) (c.has_place.ensures ∙ ap (stands_in c.args.place) c.deref-in-If.ensures)
    ∙ ap (λ b. stands_in c.args.place c.in-If.yes || b) (c.has_place-in-If.ensures ∙ ap (stands_in c.args.place) c.deref-in-If-2.ensures)
    ∙ sym (if-stands c.args.place c.in-If.cond c.in-If.yes c.in-If.no))

pub has_place-returns-in-Set : goal.has_place-returns-in-Set
has_place-returns-in-Set t c =
    rw c.in-Set.is (sym (set-stands c.args.place c.in-Set.own c.in-Set.target c.in-Set.value c.in-Set.later))
