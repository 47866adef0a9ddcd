use Rattle.std.proofs.Common.{◌<◌, ◌∙◌, sym, subst, ap, length, Ok}
use Rattle.std.specs.Prelude.{All}
use Rattle.design_core.specs.Explained.{is_one_of}
use Rattle.plain_list.specs.Rows.{AreExplained, CanBeRight}
use Rattle.plain_list.proofs.Grouping.{set-places}
use Rattle.plain_list.proofs.Working.{explains-by, values-by, works-not}
use Rattle.plain_list.proofs.works.works.Goals as goal

pub explain_all-requires-clause-places : goal.explain_all-requires-clause-places
explain_all-requires-clause-places c =
    subst (All (λ p. p < length c.args.d.now.places.items)) (sym (c.deref-3.ensures.value ∙ c.in_ok-places.ensures)) (set-places c.args.d.now c.args.members.now c.requires.set)

pub returns-in-Some-clause-some : goal.returns-in-Some-clause-some
returns-in-Some-clause-some c =
    explains-by c.args.d.now c.args.order.now c.args.traces.now c.args.members.now (record { places = c.in_ok-places.places; rows = c.in-Some.rows })
    c.requires.network c.requires.set c.in_ok-places.ensures
    (subst (λ ps. AreExplained c.args.d.now c.args.order.now c.args.traces.now ps c.in-Some.rows.items (length c.args.traces.now)) c.deref-3.ensures.value
    (rw c.in-Some.is at c.in_ok-rows.ensures.some))

pub returns-in-Some-clause-shape : goal.returns-in-Some-clause-shape
returns-in-Some-clause-shape c =
    values-by c.args.d.now c.args.order.now c.args.traces.now c.args.members.now (record { places = c.in_ok-places.places; rows = c.in-Some.rows })
    c.requires.set c.in_ok-places.ensures
    (subst (λ ps. AreExplained c.args.d.now c.args.order.now c.args.traces.now ps c.in-Some.rows.items (length c.args.traces.now)) c.deref-3.ensures.value
    (rw c.in-Some.is at c.in_ok-rows.ensures.some))

pub returns-in-None-clause-none : goal.returns-in-None-clause-none
returns-in-None-clause-none c _ =
    works-not c.args.d.now c.args.traces.now c.args.members.now c.in_ok-places.places.items c.requires.set c.in_ok-places.ensures
    (subst (λ ps. ¬ CanBeRight c.args.d.now c.args.traces.now (is_one_of ps)) c.deref-3.ensures.value (c.in_ok-rows.ensures.none (ap Ok c.in-None.is)))
