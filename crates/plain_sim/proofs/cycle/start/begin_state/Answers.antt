use Rattle.std.proofs.Common.{[]}
use Rattle.design_core.specs.Words.{valuation_of}
use Rattle.plain_sim.proofs.EvaluateRun.{start-is}
use Rattle.plain_sim.proofs.cycle.start.begin_state.Goals as goal

pub returns-clause-value : goal.returns-clause-value
returns-clause-value c =
    start-is c.args.design.now (valuation_of []) (valuation_of c.args.state.now) (valuation_of c.take.new.to) c.args.starts.now c.requires.values c.requires.zeros c.take.ensures.value
