use Rattle.std.proofs.Common.{sym}
use Rattle.cycle_code.proofs.WordCells.{held-word}
use Rattle.cycle_code.proofs.cell.read.Goals as goal

pub returns-clause-value : goal.returns-clause-value
returns-clause-value c = sym (held-word c.args.cells.now c.args.cell c.word_at.result c.word_at.ensures)
