use Rattle.std.proofs.Common.{◌∙◌, ap, get_or, subst, sym}
use Rattle.std.specs.List.Sorted.{IsNonDecreasingBy}
use Rattle.place_functions.specs.Notes.{notes_have, place_of, some_reads}
use Rattle.place_functions.specs.Operands.{all_passing}
use Rattle.place_functions.proofs.RowSteps.{row-more}
use Rattle.place_functions.proofs.operands.operands_of.Goals as goal

pub notes_at-requires : goal.notes_at-requires
notes_at-requires c = subst (IsNonDecreasingBy place_of) (sym c.deref-in-loop-place.ensures.value) c.by_place.ensures.ordered

pub loop-place-preserved : goal.loop-place-preserved
loop-place-preserved c =
    let place = get_or c.args.places.now c.loop-place.place-index 0 in
    let part = c.notes_at.result.now in
    c.in_ok-push.ensures.items
    ∙ row-more c.args.design.now _ _ part c.args.places.now c.loop-place.place-index c.loop-place.rows.items c.from_vec.result
    c.in_ok-notes.ensures c.by_place.ensures.same
    (λ s b. c.notes_at.ensures s b ∙ ap (λ ns. notes_have ns place s b) c.deref-in-loop-place.ensures.value)
    c.loop-place-test.true c.loop-place.invariant
    (c.from_vec.ensures ∙ c.in_ok-bits.ensures ∙ ap (λ ss. all_passing (some_reads part) 0 ss) c.deref.ensures.value)
