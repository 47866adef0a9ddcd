use Rattle.std.proofs.Common.{arith}
use Rattle.cycle_code.proofs.WordCells.{width_in-most}
use Rattle.cycle_code.proofs.operating.join.Goals as goal

pub join-word-requires : goal.join-word-requires
join-word-requires c =
    omega (arith, c.read.ensures.width, c.read-2.ensures.width, c.requires.width, width_in-most c.args.cells.now c.args.to)
