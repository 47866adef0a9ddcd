use Rattle.std.proofs.Common.{◌∙◌, ap, arith, []}
use Rattle.loc_base.proofs.ShelfLists.{slice_get-some}
use Rattle.design_core.specs.Words.{valuation_of, choice_of}
use Rattle.plain_sim.proofs.EvaluateSteps.{driver-is}
use Rattle.plain_sim.proofs.cycle.settle.settle_driver.Goals as goal

pub returns-clause-value : goal.returns-clause-value
returns-clause-value c =
    let (driver, at) = slice_get-some c.args.design.now.drivers.items c.args.i (omega (arith, c.if-i-len.false, c.len.ensures, c.args.design.now.drivers.ok.0)) in
    driver-is c.args.design.now (choice_of c.args.freed.now c.args.chosen.now) (valuation_of []) (valuation_of c.args.now.now) (valuation_of c.deref.result.now) (valuation_of c.take.new.to)
    c.args.i driver at (ap valuation_of c.deref.ensures.value ∙ c.in_ok-driven.ensures.value driver at) c.take.ensures.value
