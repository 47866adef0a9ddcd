use Rattle.std.proofs.Common.{sym, subst, ap, ◌∙◌, length, ◌<◌, arith, ◌≡◌, get_or}
use Rattle.std.specs.Prelude.{Contains}
use Rattle.design_order.specs.Rows.{Listed, has}
use Rattle.design_order.specs.Circle.{IsCircleOf}
use Rattle.design_order.proofs.Walks.{suffix-items, row-within, walk-step, circle-suffix}
use Rattle.design_order.proofs.circle.circle_from.Goals as goal

pub first_left-number-requires-clause-within : goal.first_left-number-requires-clause-within
first_left-number-requires-clause-within c = λ k some.
    let below = row-within c.args.needs.now c.walk.number k c.requires.within (sym (ap (λ r. has r k) c.row.ensures) ∙ some) in
    omega (arith, below, c.requires.long)

pub walk-preserved : goal.walk-preserved
walk-preserved c =
    walk-step c.args.needs.now c.args.taken.now c.walk.met.items c.walk.path.items c.push.new.self.items c.walk.number c.first_left-number.result
    c.requires.within c.walk.invariant c.in_ok-push.ensures.items (subst (λ r. Contains r c.first_left-number.result) c.row.ensures c.first_left-number.ensures.listed)
    c.first_left-number.ensures.left

pub returns : goal.returns
returns c =
    let below = subst (λ p. c.place_of-place.result < length p) c.deref.ensures.value c.place_of-place.ensures.within in
    let at = subst (λ p. get_or p c.place_of-place.result 0 ≡ c.walk.number) c.deref.ensures.value c.place_of-place.ensures.at in
    let circle = circle-suffix (Listed c.args.needs.now) (length c.args.needs.now) c.walk.path.items c.place_of-place.result c.walk.number below at c.walk.invariant.leads c.walk.invariant.within in
    subst (IsCircleOf (Listed c.args.needs.now) (length c.args.needs.now)) (sym (suffix-items c.as_slice.result.now c.walk.path.items _ c.place_of-place.result c.as_slice.ensures.value c.in_ok-from_slice.ensures.items)) circle
