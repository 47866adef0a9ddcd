use Rattle.std.proofs.Common.{ℕ, sym, ◌∙◌, arith, refl}
use Rattle.std.proofs.lemmas.Bool.{both_ways}
use Rattle.std.specs.Prelude.{false}
use Rattle.design_core.specs.Words.{valuation_of, choice_of}
use Rattle.plain_sim.specs.EvaluateCycle.{BlockHolds}
use Rattle.plain_sim.proofs.EvaluateHolds.{numbers-next}
use Rattle.plain_sim.proofs.cycle.holds.blocks_hold.Goals as goal

pub returns-then-not-branch : goal.returns-then-not-branch
returns-then-not-branch c = (
  (λ h. absurd (both_ways false refl h)),
  (λ all. sym c.if-not-branch.true ∙ c.in_ok-block_holds.ensures.1 (all c.loop-i.i (omega (arith, c.loop-i-test.true, c.len-i-end.ensures, c.args.design.now.clocked.ok.0)))),
)

pub loop-i-preserved : goal.loop-i-preserved
loop-i-preserved c =
    numbers-next
    (λ (i : ℕ). BlockHolds c.args.design.now (choice_of c.args.freed.now c.args.chosen.now) (valuation_of c.args.before.now) (valuation_of c.args.now.now) (valuation_of c.args.next.now) i)
    c.loop-i.i c.loop-i.invariant (c.in_ok-block_holds.ensures.0 c.if-not-branch.false)
