use Rattle.std.proofs.Common.{[]}
use Rattle.design_core.specs.Words.{valuation_of}
use Rattle.plain_sim.proofs.EvaluateHolds.{before-is}
use Rattle.plain_sim.proofs.cycle.samples.begin.Goals as goal

pub returns-clause-value : goal.returns-clause-value
returns-clause-value c =
    before-is c.args.design.now c.args.samples.now (valuation_of c.args.state.now) (valuation_of []) (valuation_of []) (valuation_of c.args.words.now) (valuation_of c.args.sampled.now)
    (valuation_of c.take.new.to) (valuation_of c.take-2.new.to) c.requires.zeros c.requires.samples c.take.ensures.value c.take-2.ensures.value
