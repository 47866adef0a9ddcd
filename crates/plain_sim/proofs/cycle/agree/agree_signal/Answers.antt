use Rattle.std.proofs.Common.{arith, refl}
use Rattle.design_core.specs.Words.{valuation_of}
use Rattle.plain_sim.specs.EvaluateCycle.{is_in}
use Rattle.plain_sim.proofs.EvaluateAgree.{bits-next}
use Rattle.plain_sim.proofs.cycle.agree.agree_signal.Goals as goal

pub loop-b-init : goal.loop-b-init
loop-b-init c b h passes = absurd (omega (arith, h))

pub loop-b-preserved : goal.loop-b-preserved
loop-b-preserved c =
    bits-next (is_in c.args.design.now (valuation_of c.args.words.now) c.args.region c.args.s) (valuation_of c.args.one.now c.args.s) (valuation_of c.args.other.now c.args.s)
    c.loop-b.b c.loop-b.invariant (c.agree_bit.ensures.0 c.if-not-agree_bit.false)

pub returns : goal.returns
returns c = ((λ _ b h passes. c.loop-b.invariant b (omega (arith, h, c.loop-b-test.false)) passes), (λ _. refl))
