use Rattle.std.proofs.Common.{◌∙◌, sym, ap}
use Rattle.loc_base.proofs.ShelfLists.{slice_get-at}
use Rattle.design_core.specs.Words.{valuation_of, choice_of}
use Rattle.plain_sim.proofs.EvaluateHolds.{reset-holds}
use Rattle.plain_sim.proofs.cycle.holds.reset_holds.Goals as goal

pub returns-in_ok-left-in-Some : goal.returns-in_ok-left-in-Some
returns-in_ok-left-in-Some c =
    let at = slice_get-at c.args.design.now.clocked.items c.args.i c.index-block.result.now c.requires.number c.index-block.ensures in
    reset-holds c.args.design.now (choice_of c.args.freed.now c.args.chosen.now) (valuation_of c.args.before.now) (valuation_of c.args.now.now) (valuation_of c.deref.result.now) c.args.i c.agree.result
    c.index-block.result.now c.in-Some.reset at c.in-Some.is (sym c.is_active.ensures ∙ c.if-not-is_active.false)
    (ap valuation_of c.deref.ensures.value ∙ c.in_ok-left-in-Some.ensures.value c.index-block.result.now at) c.agree.ensures
