use Rattle.std.proofs.Common.{◌∙◌, ap, arith, refl}
use Rattle.design_core.specs.Valuation.{bit}
use Rattle.design_core.specs.Constant.{zeros}
use Rattle.plain_sim.proofs.EvaluateSweep.{swept-next, swept-all, bit-zero}
use Rattle.cycle_sim.proofs.machine.clear.Goals as goal

pub loop-k-preserved : goal.loop-k-preserved
loop-k-preserved c =
    swept-next zeros c.args.words.now c.loop-k.words c.loop-k.k c.index-words-k.result c.zero.result c.loop-k.invariant
    (omega (arith, c.loop-k-test.true, c.loop-k.auto.words))
    c.index-words-k.is (c.zero.ensures.width ∙ c.width.ensures) (λ b. ap (λ n. bit n b) c.zero.ensures.value ∙ bit-zero b)

pub returns-clause-value : goal.returns-clause-value
returns-clause-value c =
    swept-all zeros c.args.words.now c.loop-k.words c.loop-k.k c.loop-k.invariant
    (omega (arith, c.loop-k-test.false, c.loop-k.auto.words)) (λ s b past. refl)
