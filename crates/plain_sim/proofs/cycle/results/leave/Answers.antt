use Rattle.std.proofs.Common.{◌∙◌, ap, List, []}
use Rattle.loc_base.specs.declared.bits.Bits.{Bits}
use Rattle.design_core.specs.After.{Choice, Updates, after}
use Rattle.design_core.specs.Words.{valuation_of, choice_of}
use Rattle.plain_sim.proofs.EvaluateHolds.{left-is}
use Rattle.plain_values.proofs.EvaluateStore.{updates}
use Rattle.plain_sim.proofs.cycle.results.leave.Goals as goal

pub returns-clause-value : goal.returns-clause-value
returns-clause-value c block at =
    let choice : Choice = choice_of c.args.freed.now c.args.chosen.now in
    let run : List Bits → List Bits → Updates = λ ws us. after c.args.design.now.signals.items choice c.args.statement.now (updates (valuation_of ws) (valuation_of us)) in
    left-is c.args.design.now choice (valuation_of []) (valuation_of c.args.words.now) (valuation_of c.run_statement.new.now) (valuation_of c.run_statement.new.later)
    (valuation_of c.take.new.to) c.args.i block c.args.statement.now at
    (c.run_statement.ensures.value ∙ ap (λ ws. run ws c.args.later.now) c.requires.now ∙ ap (run c.args.words.now) c.requires.later)
    c.take.ensures.value
