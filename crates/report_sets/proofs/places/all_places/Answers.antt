use Rattle.std.proofs.Common.{ℕ, List, ◌++◌, ◌<◌, ◌∙◌, ap, arith, get_or, length}
use Rattle.std.proofs.lemmas.List.{get_or_default}
use Rattle.report_sets.proofs.PlacesOnce.{member-more}
use Rattle.report_sets.proofs.places.all_places.Goals as goal

pub loop-member-preserved : goal.loop-member-preserved
loop-member-preserved c =
    let member = get_or c.args.members.now c.loop-member.member-index 0 in
    let within : c.loop-member.member-index < length c.args.members.now = omega arith in
    let (some, few) = c.requires c.loop-member.member-index 0 within in
    member-more c.args.groups.now c.args.members.now c.loop-member.member-index member c.index-groups-member.result
    c.loop-member.places.items c.extend_from_slice.new.self.items within
    (get_or_default c.args.members.now c.loop-member.member-index 0 member within) some (omega (arith, some, few))
    c.index-groups-member.is
    (c.in_ok-extend_from_slice.ensures.items ∙ ap (λ (ps : List ℕ). c.loop-member.places.items ++ ps) c.as_slice.ensures)
    c.loop-member.invariant
