use Rattle.std.proofs.Common.{◌≡◌, ◌∙◌, sym, ap, [], subst}
use Rattle.loc_base.proofs.ShelfLists.{slice_get-at}
use Rattle.loc_base.proofs.ShelfOptions.{Some-same}
use Rattle.design_core.specs.Words.{valuation_of, choice_of}
use Rattle.design_core.specs.Steps.{with_body}
use Rattle.plain_sim.proofs.EvaluateSteps.{body-is}
use Rattle.plain_sim.proofs.cycle.advance.run_body.Goals as goal

pub returns-clause-value : goal.returns-clause-value
returns-clause-value c block there =
    let at = slice_get-at c.args.design.now.clocked.items c.args.i c.index-block.result.now c.requires.number c.index-block.ensures in
    let choice = choice_of c.args.freed.now c.args.chosen.now in
    subst (λ x. valuation_of c.take.new.to ≡ with_body c.args.design.now choice (valuation_of c.args.now.now) x (valuation_of c.args.next.now))
    (Some-same (sym at ∙ there))
    (body-is c.args.design.now choice (valuation_of []) (valuation_of c.args.now.now) (valuation_of c.args.next.now) (valuation_of c.deref.result.now) (valuation_of c.take.new.to) c.args.i
    c.index-block.result.now at (sym c.is_active.ensures ∙ c.if-is_active.false)
    (ap valuation_of c.deref.ensures.value ∙ c.in_ok-left.ensures.value c.index-block.result.now at) c.take.ensures.value)
