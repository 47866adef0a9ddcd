use Rattle.std.proofs.Common.{◌∙◌, sym, ap, List, []}
use Rattle.loc_base.specs.declared.bits.Bits.{Bits}
use Rattle.plain_sim.specs.declared.cycle.region.Region.TheVariants as region
use Rattle.design_core.specs.Valuation.{Valuation}
use Rattle.design_core.specs.Words.{valuation_of, choice_of}
use Rattle.plain_sim.specs.EvaluateCycle.{is_in, blended}
use Rattle.plain_sim.proofs.EvaluateHolds.{driven-is}
use Rattle.plain_sim.proofs.cycle.results.drive.Goals as goal

pub run_driver-requires-clause-same : goal.run_driver-requires-clause-same
run_driver-requires-clause-same c =
    let begun : List Bits → Valuation = λ ws. blended (is_in c.args.design.now (valuation_of []) (region.Driver c.args.i)) (valuation_of c.args.zeros.now) (valuation_of ws) in
    c.take-2.ensures.value ∙ ap begun (c.requires.later ∙ sym c.requires.rest) ∙ sym c.take.ensures.value

pub returns-clause-value : goal.returns-clause-value
returns-clause-value c driver at =
    let begun : List Bits → Valuation = λ ws. blended (is_in c.args.design.now (valuation_of []) (region.Driver c.args.i)) (valuation_of c.args.zeros.now) (valuation_of ws) in
    c.run_driver.ensures.value
    ∙ driven-is c.args.design.now (choice_of c.args.freed.now c.args.chosen.now) (valuation_of []) (valuation_of c.args.words.now) (valuation_of c.args.zeros.now)
    (valuation_of c.take.new.to) c.args.i c.index.result.now driver c.requires.number c.index.ensures at c.requires.at_zero (c.take.ensures.value ∙ ap begun c.requires.rest)
