use Rattle.std.proofs.Common.{◌∙◌, ap}
use Rattle.design_core.specs.Words.{valuation_of, choice_of}
use Rattle.plain_sim.proofs.EvaluateHolds.{driver-holds}
use Rattle.plain_sim.proofs.cycle.holds.driver_holds.Goals as goal

pub returns : goal.returns
returns c =
    driver-holds c.args.design.now (choice_of c.args.freed.now c.args.chosen.now) (valuation_of c.args.now.now) (valuation_of c.deref.result.now) c.args.i c.agree.result c.requires.number
    (λ driver at. ap valuation_of c.deref.ensures.value ∙ c.in_ok-driven.ensures.value driver at) c.agree.ensures
