use Rattle.std.proofs.Common.{◌≡◌, ◌+◌, ◌-◌, ◌<◌, sym, subst, arith, length, get_or, set, None, Some, Option, ℕ}
use Rattle.suspect_map.specs.Grouping.{IsChained}
use Rattle.suspect_map.proofs.ChainLaws.{chained-skip, chained-add, read-none, none-from}
use Rattle.suspect_map.proofs.chains.Chains.new.Goals as goal

pub loop-place-preserved-in-Some : goal.loop-place-preserved-in-Some
loop-place-preserved-in-Some c =
    let firsts = c.args.firsts.now in
    let i = c.loop-place.place - 1 in
    let heads = c.loop-place.heads.items in
    let next = c.loop-place.next.items in
    let at : c.loop-place.place ≡ i + 1 = omega arith in
    let chained : IsChained firsts (i + 1) heads next = subst (λ n. IsChained firsts n heads next) at c.loop-place.invariant in
    let within : i < length firsts = omega arith in
    let first : get_or firsts i None ≡ Some c.in-Some.first = c.in-Some.is in
    let below : c.in-Some.first < length firsts = c.requires.within i c.in-Some.first first in
    let read : c.index.result.now ≡ get_or heads c.in-Some.first None = read-none heads c.in-Some.first c.index.result.now (omega (arith, below, chained.heads_long)) c.index.ensures in
    subst (λ (x : Option ℕ). IsChained firsts i (set heads c.in-Some.first (Some i)) (set next i x)) (sym read) (chained-add firsts i heads next chained within c.in-Some.first first below)

pub loop-place-preserved : goal.loop-place-preserved
loop-place-preserved c =
    let firsts = c.args.firsts.now in
    let i = c.loop-place.place - 1 in
    let heads = c.loop-place.heads.items in
    let next = c.loop-place.next.items in
    let at : c.loop-place.place ≡ i + 1 = omega arith in
    let chained : IsChained firsts (i + 1) heads next = subst (λ n. IsChained firsts n heads next) at c.loop-place.invariant in
    let within : i < length firsts = omega arith in
    chained-skip firsts i heads next chained within (none-from (get_or firsts i None) c.in_default.not-Some)
