use Rattle.std.proofs.Common.{◌∙◌, arith}
use Rattle.design_core.specs.Words.{valuation_of}
use Rattle.plain_sim.specs.EvaluateCycle.{is_in, blended}
use Rattle.plain_sim.proofs.EvaluateSweep.{swept-none, taken-next, taken-all}
use Rattle.plain_sim.proofs.cycle.take.take.Goals as goal

pub loop-s-init : goal.loop-s-init
loop-s-init c = swept-none (blended (is_in c.args.design.now (valuation_of c.args.words.now) c.args.region) (valuation_of c.args.from.now) (valuation_of c.args.to.now)) c.args.to.now

pub loop-s-preserved : goal.loop-s-preserved
loop-s-preserved c =
    taken-next c.args.design.now.signals.items (is_in c.args.design.now (valuation_of c.args.words.now) c.args.region) c.args.from.now c.args.to.now c.loop-s.to c.loop-s.s
    c.index-from-s.result c.index-to-s.result c.taken_word.result c.requires.from c.requires.to c.loop-s.invariant (omega (arith, c.loop-s-test.true, c.loop-s.auto.to))
    c.index-from-s.is c.index-to-s.is c.taken_word.ensures.width c.taken_word.ensures.value

pub returns-clause-words : goal.returns-clause-words
returns-clause-words c = record { widths = c.loop-s.invariant.widths ∙ c.requires.to.widths }

pub returns-clause-value : goal.returns-clause-value
returns-clause-value c =
    taken-all c.args.design.now.signals.items (is_in c.args.design.now (valuation_of c.args.words.now) c.args.region) c.args.from.now c.args.to.now c.loop-s.to c.loop-s.s
    c.requires.from c.requires.to c.loop-s.invariant (omega (arith, c.loop-s-test.false, c.loop-s.auto.to))
