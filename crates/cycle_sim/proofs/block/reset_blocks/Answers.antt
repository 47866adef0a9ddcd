use Rattle.std.proofs.Common.{arith}
use Rattle.design_core.specs.Words.{valuation_of}
use Rattle.design_core.specs.declared.design.Design.{Design}
use Rattle.design_core.specs.After.{Choice}
use Rattle.design_core.specs.Valuation.{Valuation}
use Rattle.cycle_code.specs.Choosing.{as_choice}
use Rattle.plain_sim.proofs.EvaluateSteps.{slice-at}
use Rattle.cycle_code.specs.Program.{program_of, Program}
use Rattle.cycle_sim.specs.Compiled.{now_in, later_in}
use Rattle.cycle_sim.proofs.Resets.{reset-begin, reset-next, reset-end}
use Rattle.cycle_sim.proofs.block.reset_blocks.Goals as goal

pub loop-i-init : goal.loop-i-init
loop-i-init c =
    let p : Program = program_of c.args.code.now in
    let d : Design = c.args.code.now.design.now in
    let choice : Choice = as_choice c.args.choices.now in
    let V : Valuation = now_in p (valuation_of c.args.cells.now) in
    let S : Valuation = later_in p (valuation_of c.args.cells.now) in
    record {
      cells = c.requires.cells;
      reset = λ well once registers E same. reset-begin d choice E V S same registers;
    }

pub loop-i-preserved : goal.loop-i-preserved
loop-i-preserved c =
    let p : Program = program_of c.args.code.now in
    let d : Design = c.args.code.now.design.now in
    let choice : Choice = as_choice c.args.choices.now in
    let V : Valuation = now_in p (valuation_of c.loop-i.cells) in
    let S : Valuation = later_in p (valuation_of c.loop-i.cells) in
    let (block, at) = slice-at d.clocked.items c.loop-i.i (omega (arith, c.loop-i-test.true, c.len-i-end.ensures, d.clocked.ok.0)) in
    record {
      cells = c.reset_block.ensures.cells;
      reset = λ well once registers E same.
          reset-next d choice E V S
          (now_in p (valuation_of c.reset_block.new.cells)) (later_in p (valuation_of c.reset_block.new.cells))
          c.loop-i.i block well once at (c.loop-i.invariant.reset well once registers E same) (c.reset_block.ensures.reset block at);
    }

pub returns-clause-reset : goal.returns-clause-reset
returns-clause-reset c well once registers E same =
    let p : Program = program_of c.args.code.now in
    let d : Design = c.args.code.now.design.now in
    let choice : Choice = as_choice c.args.choices.now in
    let V : Valuation = now_in p (valuation_of c.loop-i.cells) in
    let S : Valuation = later_in p (valuation_of c.loop-i.cells) in
    reset-end d choice E V S c.loop-i.i
    (omega (arith, c.loop-i-test.false, c.len-i-end.ensures, d.clocked.ok.0)) (c.loop-i.invariant.reset well once registers E same)
