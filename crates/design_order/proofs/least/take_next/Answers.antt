use Rattle.std.proofs.Common.{◌≡◌, ◌<◌, ◌≤◌, ◌+◌, ◌==◌, ◌&&◌, ◌||◌, [], arith, ◌∙◌, sym, ap, subst, refl, length, slice_index, not}
use Rattle.std.specs.Ordering.{nat_cmp}
use Rattle.std.specs.BTreeSet.{contains}
use Rattle.std.proofs.lemmas.List.{get_or_read}
use Rattle.design_order.specs.Rows.{times, has}
use Rattle.design_order.proofs.RunningLaws.{enough, ready-is, running-step}
use Rattle.design_order.proofs.least.take_next.Goals as goal

pub release-requires-clause-enough : goal.release-requires-clause-enough
release-requires-clause-enough c =
    let s = c.args.state.now in
    let d = c.in-Some.number in
    let known = ready-is c.args.needs.now s d c.requires.running c.in-Some.ensures.member in
    let below : d < length c.args.users.now = omega (arith, known.0, c.requires.users.long) in
    let row_is = c.deref.ensures ∙ get_or_read c.args.users.now d _ below c.index-users-number.is [] in
    λ k. subst (λ r. times k r ≤ slice_index s.counts.items k) (sym row_is) (enough c.args.needs.now c.args.users.now s d k c.requires.users c.requires.running known.1)

pub returns-clause-running : goal.returns-clause-running
returns-clause-running c =
    let s = c.args.state.now in
    let d = c.in-Some.number in
    let known = ready-is c.args.needs.now s d c.requires.running c.in-Some.ensures.member in
    let below : d < length c.args.users.now = omega (arith, known.0, c.requires.users.long) in
    let row_is = c.deref.ensures ∙ get_or_read c.args.users.now d _ below c.index-users-number.is [] in
    running-step c.args.needs.now c.args.users.now s _ d c.requires.users c.requires.running c.in-Some.ensures.member c.in-Some.ensures.least
    c.in_ok-push.ensures.items
    refl
    (omega (arith, c.in_ok-release.ensures.long, s.counts.ok.0, c.release.new.counts.ok.0))
    (λ k. subst (λ r. slice_index c.release.new.counts.items k + times k r ≡ slice_index s.counts.items k) row_is (c.in_ok-release.ensures.counts k))
    (λ k.
    c.in_ok-release.ensures.ready k
    ∙ ap (λ b. b || (has c.deref.result.now k && slice_index c.release.new.counts.items k == 0)) (c.in-Some.ensures.taken k)
    ∙ ap (λ r. (contains nat_cmp s.ready k && not (d == k)) || (has r k && slice_index c.release.new.counts.items k == 0)) row_is)
