use Rattle.std.proofs.Common.{◌≡◌, ◌-◌, ◌∙◌, get_or, refl, sym, arith, rules}
use Rattle.trail_core.specs.declared.watches.Pair.{Pair}
use Rattle.trail_core.specs.Visits.{IsKnown}
use Rattle.trail_core.proofs.Marks.{marks_same}
use Rattle.trail_core.proofs.Listing.{apart_lit}
use Rattle.trail_core.proofs.Visiting.{visits_absent}
use Rattle.trail_core.proofs.Giving.{pair_is}
use Rattle.trail_core.proofs.visit.visit.Goals as goal

pub overflow_sub-number : goal.overflow_sub-number
overflow_sub-number c = omega (arith, c.requires.above)

pub index-pair-requires : goal.index-pair-requires
index-pair-requires c = omega (arith, c.requires.above, c.requires.within)

pub returns-else-are_same-2-clause-gives : goal.returns-else-are_same-2-clause-gives
returns-else-are_same-2-clause-gives c =
    let known : IsKnown c.args.trail.now c.args.watches.now c.args.number c.args.gone = c.requires in
    let q : Pair = c.index-pair.result.now in
    let at : get_or c.args.watches.now.pairs.items (c.args.number - 1) c.index-pair.result.now ≡ c.index-pair.result.now = search rules in
    visits_absent c.args.trail.now c.args.watches.now c.args.gone q c.args.number known (λ d. pair_is c.args.trail.now c.args.watches.now c.args.number c.args.gone q d known ∙ at)
    (apart_lit q.first c.args.gone (sym c.are_same.ensures ∙ c.if-are_same.false)) (apart_lit q.second c.args.gone (sym c.are_same-else-are_same.ensures ∙ c.if-are_same-2.false))

pub returns-else-are_same-2-clause-marks : goal.returns-else-are_same-2-clause-marks
returns-else-are_same-2-clause-marks c = marks_same c.args.watches.now.pairs.items c.args.watches.now.pairs.items refl
