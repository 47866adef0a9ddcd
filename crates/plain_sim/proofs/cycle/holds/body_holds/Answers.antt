use Rattle.std.proofs.Common.{◌∙◌, sym, ap}
use Rattle.std.proofs.lemmas.Bool.{not_from_false}
use Rattle.loc_base.proofs.ShelfLists.{slice_get-at}
use Rattle.design_core.specs.Cycle.{is_active}
use Rattle.design_core.specs.Words.{valuation_of, choice_of}
use Rattle.plain_sim.proofs.EvaluateHolds.{body-holds}
use Rattle.plain_sim.proofs.cycle.holds.body_holds.Goals as goal

pub returns : goal.returns
returns c =
    let at = slice_get-at c.args.design.now.clocked.items c.args.i c.index-block.result.now c.requires.number c.index-block.ensures in
    body-holds c.args.design.now (choice_of c.args.freed.now c.args.chosen.now) (valuation_of c.args.now.now) (valuation_of c.args.next.now) (valuation_of c.deref.result.now) c.args.i c.agree.result
    c.index-block.result.now at (not_from_false (is_active (valuation_of c.args.now.now) c.index-block.result.now) (sym c.is_active.ensures ∙ c.if-is_active.false))
    (ap valuation_of c.deref.ensures.value ∙ c.in_ok-left.ensures.value c.index-block.result.now at) c.agree.ensures
