use Rattle.std.proofs.Common.{◌∙◌, ap, arith, refl}
use Rattle.design_core.specs.Valuation.{bit}
use Rattle.design_core.specs.Constant.{zeros}
use Rattle.plain_sim.proofs.EvaluateSweep.{swept-none, swept-next, swept-all, bit-zero}
use Rattle.plain_sim.proofs.cycle.copies.clear.Goals as goal

pub loop-i-init : goal.loop-i-init
loop-i-init c = swept-none zeros c.args.words.now

pub loop-i-preserved : goal.loop-i-preserved
loop-i-preserved c =
    swept-next zeros c.args.words.now c.loop-i.words c.loop-i.i c.index-words-i.result c.zero.result c.loop-i.invariant (omega (arith, c.loop-i-test.true, c.loop-i.auto.words))
    c.index-words-i.is (c.zero.ensures.width ∙ c.width.ensures) (λ b. ap (λ n. bit n b) c.zero.ensures.value ∙ bit-zero b)

pub returns-clause-words : goal.returns-clause-words
returns-clause-words c = record { widths = c.loop-i.invariant.widths ∙ c.requires.words.widths }

pub returns-clause-value : goal.returns-clause-value
returns-clause-value c =
    swept-all zeros c.args.words.now c.loop-i.words c.loop-i.i c.loop-i.invariant (omega (arith, c.loop-i-test.false, c.loop-i.auto.words)) (λ s b past. refl)
