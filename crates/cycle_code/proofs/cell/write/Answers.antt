use Rattle.cycle_code.proofs.WordCells.{widths-written, valuation-written}
use Rattle.cycle_code.proofs.cell.write.Goals as goal

pub returns-clause-widths : goal.returns-clause-widths
returns-clause-widths c =
    rw c.take.ensures (widths-written c.args.cells.now c.args.cell c.args.word c.requires.within c.requires.width)

pub returns-clause-value : goal.returns-clause-value
returns-clause-value c =
    rw c.take.ensures (valuation-written c.args.cells.now c.args.cell c.args.word c.requires.within c.requires.width)
