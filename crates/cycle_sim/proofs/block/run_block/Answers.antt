use Rattle.std.proofs.Common.{arith, ◌∙◌, sym, subst, []}
use Rattle.std.specs.Prelude.{slice_index_or}
use Rattle.loc_base.proofs.ShelfOptions.{Some-same}
use Rattle.design_core.specs.declared.driver.Clocked.{Clocked}
use Rattle.design_core.specs.Words.{valuation_of}
use Rattle.design_core.specs.declared.design.Design.{Design}
use Rattle.design_core.specs.After.{Choice}
use Rattle.design_core.specs.Valuation.{Valuation}
use Rattle.cycle_code.specs.Choosing.{as_choice}
use Rattle.plain_values.proofs.EvaluateWords.{slice_get_at}
use Rattle.cycle_code.specs.Program.{program_of, Program}
use Rattle.cycle_code.specs.declared.range.Range.{Range}
use Rattle.cycle_sim.specs.Masks.{AreBlockMasks}
use Rattle.cycle_sim.specs.Compiled.{now_in, later_in, Carries}
use Rattle.cycle_sim.specs.Blocks.{WithBody}
use Rattle.cycle_sim.proofs.BlockSteps.{body-step, body-active, body-fits}
use Rattle.cycle_sim.proofs.Leaving.{body-within, range-at, active-in}
use Rattle.cycle_sim.proofs.block.run_block.Goals as goal

pub returns-then-is_active-clause-run : goal.returns-then-is_active-clause-run
returns-then-is_active-clause-run c block there =
    let p : Program = program_of c.args.code.now in
    let d : Design = c.args.code.now.design.now in
    let choice : Choice = as_choice c.args.choices.now in
    let one : Clocked = c.index-block.result.now in
    let V : Valuation = now_in p (valuation_of c.args.cells.now) in
    let S : Valuation = later_in p (valuation_of c.args.cells.now) in
    let at = slice_get_at d.clocked.items c.args.i one c.requires.number c.index-block.ensures in
    subst (λ (x : Clocked). WithBody d choice x V S S) (Some-same (sym at ∙ there))
    (body-active d choice one V S (active-in p c.args.cells.now c.len.result one c.is_active.result
    (omega (arith, c.len.ensures, d.signals.ok.0)) c.is_active.ensures ∙ c.if-is_active.true))

pub leave-requires-clause-within : goal.leave-requires-clause-within
leave-requires-clause-within c =
    let p : Program = program_of c.args.code.now in
    let d : Design = c.args.code.now.design.now in
    let one : Clocked = c.index-block.result.now in
    let at = slice_get_at d.clocked.items c.args.i one c.requires.number c.index-block.ensures in
    let range : Range = slice_index_or c.args.ranges.now c.args.i (record { from = 0; to = 0 }) in
    let carries : Carries p range one.body = c.requires.bodies.each c.args.i one range
    at (range-at c.args.ranges.now d.clocked.items c.args.i (record { from = 0; to = 0 }) c.requires.bodies.many c.requires.number) in
    carries.within

pub leave-requires-clause-at_once : goal.leave-requires-clause-at_once
leave-requires-clause-at_once c =
    let d : Design = c.args.code.now.design.now in
    let one : Clocked = c.index-block.result.now in
    let at = slice_get_at d.clocked.items c.args.i one c.requires.number c.index-block.ensures in
    let masks : AreBlockMasks d one (slice_index_or c.args.masks.now.own c.args.i []) c.row.result.now c.row-2.result.now =
    rw (c.row.ensures, c.row-2.ensures) (c.requires.masks.each c.args.i one at) in
    masks.at_once_widths

pub leave-requires-clause-now : goal.leave-requires-clause-now
leave-requires-clause-now c =
    let d : Design = c.args.code.now.design.now in
    let one : Clocked = c.index-block.result.now in
    let at = slice_get_at d.clocked.items c.args.i one c.requires.number c.index-block.ensures in
    let masks : AreBlockMasks d one (slice_index_or c.args.masks.now.own c.args.i []) c.row.result.now c.row-2.result.now =
    rw (c.row.ensures, c.row-2.ensures) (c.requires.masks.each c.args.i one at) in
    masks.now.widths

pub returns-clause-same : goal.returns-clause-same
returns-clause-same c =
    let p : Program = program_of c.args.code.now in
    let d : Design = c.args.code.now.design.now in
    let one : Clocked = c.index-block.result.now in
    let at = slice_get_at d.clocked.items c.args.i one c.requires.number c.index-block.ensures in
    let range : Range = slice_index_or c.args.ranges.now c.args.i (record { from = 0; to = 0 }) in
    let carries : Carries p range one.body = c.requires.bodies.each c.args.i one range
    at (range-at c.args.ranges.now d.clocked.items c.args.i (record { from = 0; to = 0 }) c.requires.bodies.many c.requires.number) in
    let masks : AreBlockMasks d one (slice_index_or c.args.masks.now.own c.args.i []) c.row.result.now c.row-2.result.now =
    rw (c.row.ensures, c.row-2.ensures) (c.requires.masks.each c.args.i one at) in
    let left = c.leave.ensures.left one.body (body-within p range c.args.i one
    (slice_index_or c.args.masks.now.own c.args.i []) c.row.result.now c.row-2.result.now c.requires.design at masks carries) in
    left.same

pub returns-clause-run : goal.returns-clause-run
returns-clause-run c block there =
    let p : Program = program_of c.args.code.now in
    let d : Design = c.args.code.now.design.now in
    let choice : Choice = as_choice c.args.choices.now in
    let one : Clocked = c.index-block.result.now in
    let V : Valuation = now_in p (valuation_of c.args.cells.now) in
    let S : Valuation = later_in p (valuation_of c.args.cells.now) in
    let at = slice_get_at d.clocked.items c.args.i one c.requires.number c.index-block.ensures in
    let range : Range = slice_index_or c.args.ranges.now c.args.i (record { from = 0; to = 0 }) in
    let carries : Carries p range one.body = c.requires.bodies.each c.args.i one range
    at (range-at c.args.ranges.now d.clocked.items c.args.i (record { from = 0; to = 0 }) c.requires.bodies.many c.requires.number) in
    let masks : AreBlockMasks d one (slice_index_or c.args.masks.now.own c.args.i []) c.row.result.now c.row-2.result.now =
    rw (c.row.ensures, c.row-2.ensures) (c.requires.masks.each c.args.i one at) in
    let left = c.leave.ensures.left one.body (body-within p range c.args.i one
    (slice_index_or c.args.masks.now.own c.args.i []) c.row.result.now c.row-2.result.now c.requires.design at masks carries) in
    subst (λ (x : Clocked). WithBody d choice x V S (later_in p (valuation_of c.leave.new.cells))) (Some-same (sym at ∙ there))
    (body-step d choice one (slice_index_or c.args.masks.now.own c.args.i []) c.row.result.now c.row-2.result.now V S
    (later_in p (valuation_of c.leave.new.cells)) masks
    (active-in p c.args.cells.now c.len.result one c.is_active.result (omega (arith, c.len.ensures, d.signals.ok.0))
    c.is_active.ensures ∙ c.if-is_active.false) (body-fits d c.args.i one c.requires.design at) left.left)
