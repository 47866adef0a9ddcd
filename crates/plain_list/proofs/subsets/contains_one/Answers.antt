use Rattle.std.proofs.Common.{◌∙◌, sym, subst, refl, arith}
use Rattle.design_core.specs.Works.{IsWithin}
use Rattle.plain_list.proofs.Settled.{true-false}
use Rattle.plain_list.proofs.Inclusion.{one-contained, none-contained, none-next}
use Rattle.plain_list.proofs.subsets.contains_one.Goals as goal

pub returns-then-is_within : goal.returns-then-is_within
returns-then-is_within c = (
  λ _. one-contained c.args.found.now c.args.set.now c.loop-listed.listed-index c.listed-item.result c.loop-listed-test.true c.listed-item.is
      (subst (λ xs. IsWithin xs c.args.set.now) c.as_slice.ensures (c.is_within.ensures.0 c.if-is_within.true)),
  λ _. refl,
)

pub loop-listed-preserved : goal.loop-listed-preserved
loop-listed-preserved c =
    none-next c.args.found.now c.args.set.now c.loop-listed.listed-index c.listed-item.result c.loop-listed-test.true c.listed-item.is c.loop-listed.invariant
    (λ w. true-false (sym (c.is_within.ensures.1 (subst (λ xs. IsWithin xs c.args.set.now) (sym c.as_slice.ensures) w)) ∙ c.if-is_within.false))

pub returns : goal.returns
returns c = (
  λ h. absurd (true-false (sym h)),
  λ one. absurd (none-contained c.args.found.now c.args.set.now (λ k d below l. c.loop-listed.invariant k d (omega (arith, l, c.loop-listed-test.false)) l) one),
)
