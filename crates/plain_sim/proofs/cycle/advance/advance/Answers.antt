use Rattle.std.proofs.Common.{[]}
use Rattle.design_core.specs.Words.{valuation_of, choice_of}
use Rattle.plain_sim.proofs.EvaluateSteps.{next-is}
use Rattle.plain_sim.proofs.cycle.advance.advance.Goals as goal

pub returns-clause-value : goal.returns-clause-value
returns-clause-value c =
    next-is c.args.design.now (choice_of c.args.freed.now c.args.chosen.now) (valuation_of []) (valuation_of c.args.state.now) (valuation_of c.args.now.now) (valuation_of c.args.next.now)
    (valuation_of c.take.new.to) (valuation_of c.run_bodies.new.next) (valuation_of c.take-2.new.to) c.requires.zeros c.take.ensures.value c.in_ok-run_bodies.ensures.value c.take-2.ensures.value
