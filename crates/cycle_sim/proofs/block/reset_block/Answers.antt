use Rattle.std.proofs.Common.{arith, ◌∙◌, sym, subst, []}
use Rattle.std.specs.Prelude.{slice_index_or}
use Rattle.loc_base.proofs.ShelfOptions.{Some-same}
use Rattle.design_core.specs.declared.driver.Clocked.{Clocked}
use Rattle.design_core.specs.Words.{valuation_of}
use Rattle.design_core.specs.declared.design.Design.{Design}
use Rattle.design_core.specs.After.{Choice}
use Rattle.design_core.specs.Valuation.{Valuation}
use Rattle.cycle_code.specs.Choosing.{as_choice}
use Rattle.plain_values.proofs.EvaluateWords.{slice_get_at}
use Rattle.cycle_code.specs.Program.{program_of, Program}
use Rattle.cycle_code.specs.declared.range.Range.{Range}
use Rattle.cycle_sim.specs.Masks.{AreBlockMasks}
use Rattle.cycle_sim.specs.Compiled.{now_in, later_in, Carries}
use Rattle.cycle_sim.specs.Blocks.{WithReset}
use Rattle.cycle_sim.proofs.BlockSteps.{reset-step, reset-quiet, values-fit}
use Rattle.cycle_sim.proofs.Leaving.{reset-within, range-at, active-in}
use Rattle.cycle_sim.proofs.block.reset_block.Goals as goal

pub returns-then-not-is_active-clause-reset : goal.returns-then-not-is_active-clause-reset
returns-then-not-is_active-clause-reset c block there =
    let p : Program = program_of c.args.code.now in
    let d : Design = c.args.code.now.design.now in
    let choice : Choice = as_choice c.args.choices.now in
    let one : Clocked = c.index-block.result.now in
    let V : Valuation = now_in p (valuation_of c.args.cells.now) in
    let S : Valuation = later_in p (valuation_of c.args.cells.now) in
    let at = slice_get_at d.clocked.items c.args.i one c.requires.number c.index-block.ensures in
    subst (λ (x : Clocked). WithReset d choice x V S V S) (Some-same (sym at ∙ there))
    (reset-quiet d choice one V S (active-in p c.args.cells.now c.len.result one c.is_active.result
    (omega (arith, c.len.ensures, d.signals.ok.0)) c.is_active.ensures ∙ c.if-not-is_active.true))

pub leave-requires-clause-within : goal.leave-requires-clause-within
leave-requires-clause-within c =
    let p : Program = program_of c.args.code.now in
    let d : Design = c.args.code.now.design.now in
    let one : Clocked = c.index-block.result.now in
    let at = slice_get_at d.clocked.items c.args.i one c.requires.number c.index-block.ensures in
    let range : Range = slice_index_or c.args.ranges.now c.args.i (record { from = 0; to = 0 }) in
    let carries : Carries p range c.in-Some._reset.values = c.requires.resets.each c.args.i one range
    at (range-at c.args.ranges.now d.clocked.items c.args.i (record { from = 0; to = 0 }) c.requires.resets.many
    c.requires.number) c.in-Some._reset c.in-Some.is in
    carries.within

pub leave-requires-clause-at_once : goal.leave-requires-clause-at_once
leave-requires-clause-at_once c =
    let d : Design = c.args.code.now.design.now in
    let one : Clocked = c.index-block.result.now in
    let at = slice_get_at d.clocked.items c.args.i one c.requires.number c.index-block.ensures in
    let masks : AreBlockMasks d one (slice_index_or c.args.masks.now.own c.args.i []) c.row.result.now
    c.row-in-Some.result.now = rw (c.row.ensures, c.row-in-Some.ensures) (c.requires.masks.each c.args.i one at) in
    masks.at_once_widths

pub leave-requires-clause-now : goal.leave-requires-clause-now
leave-requires-clause-now c =
    let d : Design = c.args.code.now.design.now in
    let one : Clocked = c.index-block.result.now in
    let at = slice_get_at d.clocked.items c.args.i one c.requires.number c.index-block.ensures in
    let masks : AreBlockMasks d one (slice_index_or c.args.masks.now.own c.args.i []) c.row.result.now
    c.row-in-Some.result.now = rw (c.row.ensures, c.row-in-Some.ensures) (c.requires.masks.each c.args.i one at) in
    masks.now.widths

pub take-requires-clause-masks : goal.take-requires-clause-masks
take-requires-clause-masks c =
    let d : Design = c.args.code.now.design.now in
    let one : Clocked = c.index-block.result.now in
    let at = slice_get_at d.clocked.items c.args.i one c.requires.number c.index-block.ensures in
    let masks : AreBlockMasks d one c.row-in-Some-2.result.now c.row.result.now c.row-in-Some.result.now =
    rw (c.row.ensures, c.row-in-Some.ensures, c.row-in-Some-2.ensures) (c.requires.masks.each c.args.i one at) in
    masks.own.widths

pub returns-in-Some-clause-reset : goal.returns-in-Some-clause-reset
returns-in-Some-clause-reset c block there =
    let p : Program = program_of c.args.code.now in
    let d : Design = c.args.code.now.design.now in
    let choice : Choice = as_choice c.args.choices.now in
    let one : Clocked = c.index-block.result.now in
    let V : Valuation = now_in p (valuation_of c.args.cells.now) in
    let S : Valuation = later_in p (valuation_of c.args.cells.now) in
    let at = slice_get_at d.clocked.items c.args.i one c.requires.number c.index-block.ensures in
    let range : Range = slice_index_or c.args.ranges.now c.args.i (record { from = 0; to = 0 }) in
    let carries : Carries p range c.in-Some._reset.values = c.requires.resets.each c.args.i one range
    at (range-at c.args.ranges.now d.clocked.items c.args.i (record { from = 0; to = 0 }) c.requires.resets.many
    c.requires.number) c.in-Some._reset c.in-Some.is in
    let masks : AreBlockMasks d one c.row-in-Some-2.result.now c.row.result.now c.row-in-Some.result.now =
    rw (c.row.ensures, c.row-in-Some.ensures, c.row-in-Some-2.ensures) (c.requires.masks.each c.args.i one at) in
    let left = c.leave.ensures.left c.in-Some._reset.values
    (reset-within p range c.args.i one c.in-Some._reset c.row-in-Some-2.result.now c.row.result.now
    c.row-in-Some.result.now c.requires.design at c.in-Some.is masks carries) in
    subst (λ (x : Clocked). WithReset d choice x V S (now_in p (valuation_of c.take.new.cells))
    (later_in p (valuation_of c.take.new.cells))) (Some-same (sym at ∙ there))
    (subst (λ X. WithReset d choice one V S (now_in p (valuation_of c.take.new.cells)) X) (sym c.take.ensures.later)
    (reset-step d choice one c.in-Some._reset c.row-in-Some-2.result.now c.row.result.now c.row-in-Some.result.now V S
    (now_in p (valuation_of c.leave.new.cells)) (later_in p (valuation_of c.leave.new.cells))
    (now_in p (valuation_of c.take.new.cells)) masks c.in-Some.is
    (active-in p c.args.cells.now c.len.result one c.is_active.result (omega (arith, c.len.ensures, d.signals.ok.0))
    c.is_active.ensures ∙ c.if-not-is_active.false)
    (values-fit d c.args.i one c.in-Some._reset c.requires.design at c.in-Some.is) left.same left.left c.take.ensures.now))
