use Rattle.std.proofs.lemmas.Result.{on_ok_weaker}
use Rattle.plain_values.proofs.EvaluateWords.{slice_get_at}
use Rattle.cycle_code.specs.Program.{program_of}
use Rattle.cycle_sim.proofs.OwnDrivers.{driver-masks, driver-numbered}
use Rattle.cycle_sim.proofs.compiled.drive_one.Goals as goal

pub drive-requires-clause-masks : goal.drive-requires-clause-masks
drive-requires-clause-masks c =
    driver-masks c.args.code.now.design.now c.args.design.now c.args.masks.now c.args.i c.index.result.now c.row.result.now
    c.requires.design c.requires.masks
    (slice_get_at c.args.design.now.drivers.items c.args.i c.index.result.now c.requires.number c.index.ensures) c.row.ensures

pub returns-clause-pushes : goal.returns-clause-pushes
returns-clause-pushes c =
    on_ok_weaker c.drive.result
    (λ pushes.
    driver-numbered (program_of c.args.code.now) (program_of c.drive.new.code) c.args.design.now c.args.i c.index.result.now
    c.requires.design
    (slice_get_at c.args.design.now.drivers.items c.args.i c.index.result.now c.requires.number c.index.ensures) pushes)
    c.drive.ensures.pushes
