use Rattle.std.proofs.Common.{◌≡◌, ◌∙◌, sym, ap, [], subst}
use Rattle.loc_base.proofs.ShelfLists.{slice_get-at}
use Rattle.loc_base.proofs.ShelfOptions.{Some-same}
use Rattle.design_core.specs.Words.{valuation_of, choice_of}
use Rattle.design_core.specs.Steps.{with_reset}
use Rattle.plain_sim.proofs.EvaluateSteps.{reset-is}
use Rattle.plain_sim.proofs.cycle.settle.reset_block.Goals as goal

pub returns-in_ok-left-clause-value : goal.returns-in_ok-left-clause-value
returns-in_ok-left-clause-value c block there =
    let at = slice_get-at c.args.design.now.clocked.items c.args.i c.index-block.result.now c.requires.number c.index-block.ensures in
    let choice = choice_of c.args.freed.now c.args.chosen.now in
    subst (λ x. valuation_of c.take.new.to ≡ with_reset c.args.design.now choice (valuation_of c.args.before.now) x (valuation_of c.args.now.now))
    (Some-same (sym at ∙ there))
    (reset-is c.args.design.now choice (valuation_of c.args.before.now) (valuation_of []) (valuation_of c.args.now.now) (valuation_of c.deref.result.now) (valuation_of c.take.new.to) c.args.i
    c.index-block.result.now c.in-Some.reset at c.in-Some.is (sym c.is_active.ensures ∙ c.if-not-is_active.false)
    (ap valuation_of c.deref.ensures.value ∙ c.in_ok-left.ensures.value c.index-block.result.now at) c.take.ensures.value)
