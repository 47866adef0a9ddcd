use Rattle.std.proofs.Common.{arith, refl}
use Rattle.design_core.specs.Words.{valuation_of}
use Rattle.plain_sim.specs.EvaluateCycle.{is_in}
use Rattle.plain_sim.proofs.EvaluateAgree.{signals-next, signals-all}
use Rattle.plain_sim.proofs.cycle.agree.agree.Goals as goal

pub loop-s-init : goal.loop-s-init
loop-s-init c s b h passes = absurd (omega (arith, h))

pub loop-s-preserved : goal.loop-s-preserved
loop-s-preserved c =
    signals-next c.args.design.now.signals.items (is_in c.args.design.now (valuation_of c.args.words.now) c.args.region) c.args.one.now c.args.other.now c.loop-s.s
    c.index-one-s.result c.requires.one c.requires.other c.loop-s-test.true c.index-one-s.is c.loop-s.invariant
    (λ b h. c.agree_signal.ensures.0 c.if-not-agree_signal.false b (omega (arith, h, c.width.ensures)))

pub returns : goal.returns
returns c = (
  (λ _. signals-all c.args.design.now.signals.items (is_in c.args.design.now (valuation_of c.args.words.now) c.args.region) c.args.one.now c.args.other.now c.loop-s.s
      c.requires.one c.requires.other c.loop-s-test.false c.loop-s.invariant),
  (λ _. refl),
)
