use Rattle.design_core.specs.Words.{valuation_of}
use Rattle.cycle_code.specs.Choosing.{as_choice}
use Rattle.cycle_code.specs.Program.{program_of}
use Rattle.cycle_sim.proofs.Leaving.{AreCells-run, left-by}
use Rattle.cycle_sim.proofs.block.leave.Goals as goal

pub settle-requires-clause-cells : goal.settle-requires-clause-cells
settle-requires-clause-cells c =
    AreCells-run (program_of c.args.code.now) (as_choice c.args.choices.now) c.args.range.to c.args.range.from
    c.save.new.cells c.run.new.cells
    c.requires.sound c.save.ensures.cells c.run.ensures.widths c.run.ensures.value

pub returns-clause-left : goal.returns-clause-left
returns-clause-left c statement within =
    left-by (program_of c.args.code.now) (as_choice c.args.choices.now) c.args.range c.args.at_once.now c.args.now.now statement
    (valuation_of c.args.cells.now) (valuation_of c.save.new.cells) (valuation_of c.run.new.cells) (valuation_of c.settle.new.cells)
    within c.save.ensures.cells.constants c.save.ensures.now c.save.ensures.later c.save.ensures.room c.run.ensures.value
    c.settle.ensures.now c.settle.ensures.later
