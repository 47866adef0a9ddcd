use Rattle.std.proofs.Common.{◌∙◌, arith, subst, refl}
use Rattle.design_core.specs.Valuation.{Valuation}
use Rattle.design_core.specs.Words.{valuation_of}
use Rattle.design_core.specs.declared.design.Design.{Design}
use Rattle.design_core.specs.After.{Choice}
use Rattle.cycle_code.specs.Choosing.{as_choice}
use Rattle.plain_sim.proofs.EvaluateSteps.{slice-at}
use Rattle.cycle_sim.specs.Blocks.{WithBody}
use Rattle.cycle_code.specs.Program.{program_of, Program}
use Rattle.cycle_sim.specs.Compiled.{now_in, later_in}
use Rattle.cycle_sim.proofs.Bodies.{run-begin, run-next, run-end}
use Rattle.cycle_sim.proofs.block.run_blocks.Goals as goal

pub loop-i-init : goal.loop-i-init
loop-i-init c =
    let p : Program = program_of c.args.code.now in
    let d : Design = c.args.code.now.design.now in
    let choice : Choice = as_choice c.args.choices.now in
    let V : Valuation = now_in p (valuation_of c.args.cells.now) in
    let S : Valuation = later_in p (valuation_of c.args.cells.now) in
    record {
      cells = c.requires.cells;
      same = refl;
      run = λ well once registers. run-begin d choice V S registers;
    }

pub loop-i-preserved : goal.loop-i-preserved
loop-i-preserved c =
    let p : Program = program_of c.args.code.now in
    let d : Design = c.args.code.now.design.now in
    let choice : Choice = as_choice c.args.choices.now in
    let V : Valuation = now_in p (valuation_of c.args.cells.now) in
    let S : Valuation = later_in p (valuation_of c.loop-i.cells) in
    let (block, at) = slice-at d.clocked.items c.loop-i.i (omega (arith, c.loop-i-test.true, c.len-i-end.ensures, d.clocked.ok.0)) in
    record {
      cells = c.run_block.ensures.cells;
      same = c.run_block.ensures.same ∙ c.loop-i.invariant.same;
      run = λ well once registers.
          run-next d choice V S (later_in p (valuation_of c.run_block.new.cells))
          c.loop-i.i block well once at (c.loop-i.invariant.run well once registers)
          (subst (λ (X : Valuation). WithBody d choice block X S (later_in p (valuation_of c.run_block.new.cells)))
          c.loop-i.invariant.same (c.run_block.ensures.run block at));
    }

pub returns-clause-run : goal.returns-clause-run
returns-clause-run c well once registers =
    let p : Program = program_of c.args.code.now in
    let d : Design = c.args.code.now.design.now in
    let choice : Choice = as_choice c.args.choices.now in
    let V : Valuation = now_in p (valuation_of c.args.cells.now) in
    let S : Valuation = later_in p (valuation_of c.loop-i.cells) in
    run-end d choice V S c.loop-i.i
    (omega (arith, c.loop-i-test.false, c.len-i-end.ensures, d.clocked.ok.0)) (c.loop-i.invariant.run well once registers)
