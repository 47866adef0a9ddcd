use Rattle.std.proofs.lemmas.Result.{on_ok_weaker}
use Rattle.cycle_code.specs.Program.{program_of}
use Rattle.cycle_compile.proofs.Placing.{IsPlaceFor-grown}
use Rattle.cycle_sim.proofs.Assigned.{Pushes-whole}
use Rattle.cycle_sim.proofs.compiled.assign_whole.Goals as goal

pub compute-requires-clause-place : goal.compute-requires-clause-place
compute-requires-clause-place c =
    IsPlaceFor-grown (program_of c.place.new.code) (program_of c.put.new.code) c.args.value.now c.in_ok-cell.cell
    c.in_ok-put.ensures.pushes.grown c.in_ok-cell.ensures.place

pub returns-clause-pushes : goal.returns-clause-pushes
returns-clause-pushes c =
    on_ok_weaker c.compute.result
    (λ values.
    Pushes-whole (program_of c.args.code.now) (program_of c.place.new.code) (program_of c.put.new.code)
    (program_of c.compute.new.code) c.args.signal c.in_ok-cell.cell c.args.number c.args.value.now c.requires.sound
    c.in_ok-cell.ensures.grown c.in_ok-cell.ensures.instructions c.in_ok-cell.ensures.fresh c.in_ok-put.ensures.pushes values)
    c.compute.ensures.values
