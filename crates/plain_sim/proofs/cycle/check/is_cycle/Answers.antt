use Rattle.std.proofs.Common.{ℕ, ◌<◌, length, sym, ap, ◌∙◌, refl, subst}
use Rattle.std.specs.Prelude.{Bool, false, ◌↔◌, IsTrue}
use Rattle.std.proofs.lemmas.Bool.{both_ways}
use Rattle.design_core.specs.Words.{valuation_of, choice_of}
use Rattle.design_core.specs.Cycle.{Cycle}
use Rattle.plain_sim.specs.EvaluateCycle.{DriverHolds}
use Rattle.plain_sim.proofs.EvaluateCheck.{IfOk-map, NextHolds, cycle-from, values-of, next-of, block-of, driver-of}
use Rattle.plain_sim.proofs.cycle.check.is_cycle.Goals as goal

pub returns-then-not-values_hold : goal.returns-then-not-values_hold
returns-then-not-values_hold c = (
  (λ h. absurd (both_ways false refl h)),
  (λ cycle. sym c.if-not-values_hold.true ∙ c.values_hold.ensures.1
      (values-of c.args.design.now c.args.samples.now (valuation_of c.args.state.now) (choice_of c.args.freed.now c.args.chosen.now) (valuation_of c.args.now.now) (valuation_of c.args.next.now)
      (valuation_of c.deref.result.now) (valuation_of c.deref-2.result.now)
      (ap valuation_of c.deref.ensures.value ∙ c.in_ok-sampled.ensures.value) (ap valuation_of c.deref-2.ensures.value ∙ c.in_ok-zeros.ensures.value) cycle)),
)

pub returns-then-not-next_holds : goal.returns-then-not-next_holds
returns-then-not-next_holds c = (
  (λ h. absurd (both_ways false refl h)),
  (λ cycle. sym c.if-not-next_holds.true ∙ c.next_holds.ensures.1
      (next-of c.args.design.now c.args.samples.now (valuation_of c.args.state.now) (choice_of c.args.freed.now c.args.chosen.now) (valuation_of c.args.now.now) (valuation_of c.args.next.now)
      (valuation_of c.deref-3.result.now) (ap valuation_of c.deref-3.ensures.value ∙ c.in_ok-zeros.ensures.value) cycle)),
)

pub returns-then-not-branch : goal.returns-then-not-branch
returns-then-not-branch c = (
  (λ h. absurd (both_ways false refl h)),
  (λ cycle. sym c.if-not-branch.true ∙ c.in_ok-blocks_hold.ensures.1
      (λ i within. block-of c.args.design.now c.args.samples.now (valuation_of c.args.state.now) (choice_of c.args.freed.now c.args.chosen.now) (valuation_of c.args.now.now) (valuation_of c.args.next.now)
      (valuation_of c.deref-4.result.now) (ap valuation_of c.deref-4.ensures.value ∙ c.in_ok-before.ensures.value) cycle i)),
)

pub returns : goal.returns
returns c =
    IfOk-map c.drivers_hold.result
    (λ (answer : Bool). IsTrue answer ↔ ((i : ℕ) → i < length c.args.design.now.drivers.items → DriverHolds c.args.design.now (choice_of c.args.freed.now c.args.chosen.now) (valuation_of c.args.now.now) i))
    (λ (answer : Bool). IsTrue answer ↔ Cycle c.args.design.now c.args.samples.now (valuation_of c.args.state.now) (choice_of c.args.freed.now c.args.chosen.now) (valuation_of c.args.now.now) (valuation_of c.args.next.now))
    (λ answer holds. (
      (λ h. cycle-from c.args.design.now c.args.samples.now (valuation_of c.args.state.now) (choice_of c.args.freed.now c.args.chosen.now) (valuation_of c.args.now.now) (valuation_of c.args.next.now)
          (valuation_of c.deref.result.now) (valuation_of c.deref-2.result.now) (valuation_of c.deref-4.result.now)
          (ap valuation_of c.deref.ensures.value ∙ c.in_ok-sampled.ensures.value) (ap valuation_of c.deref-2.ensures.value ∙ c.in_ok-zeros.ensures.value)
          (ap valuation_of c.deref-4.ensures.value ∙ c.in_ok-before.ensures.value)
          (c.values_hold.ensures.0 c.if-not-values_hold.false) (subst (λ ws. NextHolds c.args.design.now (valuation_of c.args.now.now) (valuation_of c.args.next.now) (valuation_of c.args.state.now) (valuation_of ws))
          (c.deref-3.ensures.value ∙ sym c.deref-2.ensures.value) (c.next_holds.ensures.0 c.if-not-next_holds.false))
          (c.in_ok-blocks_hold.ensures.0 c.if-not-branch.false) (holds.0 h)),
      (λ cycle. holds.1 (λ i within. driver-of c.args.design.now c.args.samples.now (valuation_of c.args.state.now) (choice_of c.args.freed.now c.args.chosen.now) (valuation_of c.args.now.now)
          (valuation_of c.args.next.now) cycle i)),
    ))
    c.drivers_hold.ensures
