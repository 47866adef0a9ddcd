use Rattle.std.proofs.Common.{◌*◌}
use Rattle.std.specs.Prelude.{nat_le}
use Rattle.cycle_code.specs.Program.{Program, program_of}
use Rattle.cycle_code.specs.Cells.{width_in}
use Rattle.cycle_code.specs.Fitting.{is_cell, is_own, has_width}
use Rattle.cycle_code.proofs.GrowthLaws.{of_four}
use Rattle.cycle_code.proofs.WordCells.{operands-there, repeat-most}
use Rattle.cycle_code.proofs.running.perform.Goals as goal

pub repeat-requires-clause-fits : goal.repeat-requires-clause-fits
repeat-requires-clause-fits c =
    let p : Program = program_of c.args.code.now in
    let t = of_four (is_own p c.in-Repeat.to) (is_cell p c.in-Repeat.part) (nat_le 1 c.in-Repeat.times)
    (has_width p c.in-Repeat.to (c.in-Repeat.times * width_in p.widths c.in-Repeat.part)) (rw c.in-Repeat.is at c.requires.fits) in
    repeat-most p c.args.cells.now c.in-Repeat.times c.in-Repeat.part c.in-Repeat.to c.requires.widths t.3

pub combine-requires : goal.combine-requires
combine-requires c =
    let b = c.in-Binary in
    operands-there (program_of c.args.code.now) c.args.cells.now b.op b.left b.right b.to c.requires.widths (rw b.is at c.requires.fits)
