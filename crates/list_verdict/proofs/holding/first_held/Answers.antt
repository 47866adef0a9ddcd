use Rattle.std.proofs.Common.{◌≡◌, ◌≤◌, length, true, ap, arith, rules, subst, sym}
use Rattle.std.specs.List.Sorted.{IsStrictlyIncreasing}
use Rattle.design_core.specs.Works.{IsWithin}
use Rattle.list_verdict.specs.Judging.{NoneWithin}
use Rattle.list_verdict.proofs.Held.{ascends, held-first, held-none, within-as_many, within-more}
use Rattle.list_verdict.proofs.holding.first_held.Goals as goal

pub returns-then-outer-inner : goal.returns-then-outer-inner
returns-then-outer-inner c =
    let longer : length c.as_slice-outer.result.now ≤ length c.as_slice-inner.result.now = omega arith in
    let many : length c.set_at-set.result.now.members ≤ length c.set_at.result.now.members =
    omega (arith, longer, ap length c.as_slice-outer.ensures, ap length c.as_slice-inner.ensures) in
    held-none c.args.sets.now c.args.place c.set_at-set.result.now c.requires.order c.set_at-set.ensures
    (within-as_many c.args.sets.now c.loop-from.from c.args.place c.set_at.result.now c.set_at-set.result.now c.requires.order
    c.set_at.ensures c.set_at-set.ensures many
    (subst (λ ms. NoneWithin c.args.sets.now ms c.loop-from.from) c.as_slice-outer.ensures c.loop-from.invariant.none))

pub returns-then-is_within : goal.returns-then-is_within
returns-then-is_within c =
    held-first c.args.sets.now c.args.place c.loop-from.from c.set_at-set.result.now c.set_at.result.now c.set_at-set.ensures
    c.set_at.ensures (omega arith)
    (subst (λ ms. IsWithin c.set_at.result.now.members ms) c.as_slice-outer.ensures
    (subst (λ ms. IsWithin ms c.as_slice-outer.result.now) c.as_slice-inner.ensures (c.is_within.ensures.0 (search rules))))
    (subst (λ ms. NoneWithin c.args.sets.now ms c.loop-from.from) c.as_slice-outer.ensures c.loop-from.invariant.none)

pub past_gap-from-requires-clause-outer : goal.past_gap-from-requires-clause-outer
past_gap-from-requires-clause-outer c =
    subst IsStrictlyIncreasing (sym c.as_slice-outer.ensures)
    (ascends c.args.sets.now c.requires.order c.args.place c.set_at-set.result.now c.set_at-set.ensures)

pub past_gap-from-requires-clause-none : goal.past_gap-from-requires-clause-none
past_gap-from-requires-clause-none c =
    within-more c.args.sets.now c.as_slice-outer.result.now c.loop-from.from c.set_at.result.now c.set_at.ensures
    (λ inside.
    let has : c.is_within.result ≡ true =
    c.is_within.ensures.1 (subst (λ ms. IsWithin ms c.as_slice-outer.result.now) (sym c.as_slice-inner.ensures) inside) in
    cc)
    c.loop-from.invariant.none

pub returns : goal.returns
returns c =
    let all : c.loop-from.from ≡ c.args.place = omega arith in
    held-none c.args.sets.now c.args.place c.set_at-set.result.now c.requires.order c.set_at-set.ensures
    (subst (λ ms. NoneWithin c.args.sets.now ms c.args.place) c.as_slice-outer.ensures
    (subst (λ n. NoneWithin c.args.sets.now c.as_slice-outer.result.now n) all c.loop-from.invariant.none))
