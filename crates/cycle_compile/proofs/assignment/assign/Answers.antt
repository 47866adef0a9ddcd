use Rattle.std.proofs.lemmas.Result.{on_ok_weaker}
use Rattle.design_core.specs.Valuation.{bit}
use Rattle.design_core.specs.After.{assigned, after_set}
use Rattle.cycle_code.specs.Program.{Program, program_of, signals_of}
use Rattle.cycle_code.proofs.GrowthLaws.{Grown-trans}
use Rattle.cycle_compile.proofs.Carrying.{placed-carries, assigned-bare}
use Rattle.cycle_compile.proofs.Wide.{fits-grown_program}
use Rattle.cycle_compile.proofs.assignment.assign.Goals as goal
use Rattle.cycle_compile.proofs.Placing.{IsPlaceFor-grown}

pub place-requires-clause-fits : goal.place-requires-clause-fits
place-requires-clause-fits c = c.bare-value.ensures.bare.fits (signals_of (program_of c.args.code.now)) c.requires.value

pub compute-requires-clause-fits : goal.compute-requires-clause-fits
compute-requires-clause-fits c =
    let old : Program = program_of c.args.code.now in
    let p0 : Program = program_of c.place.new.code in
    let p1 : Program = program_of c.store.new.code in
    fits-grown_program old p1 c.bare-value.result.now (Grown-trans old p0 p1 c.in_ok-cell.ensures.grown c.in_ok-store.ensures.carries.grown)
    (c.bare-value.ensures.bare.fits (signals_of old) c.requires.value)

pub compute-requires-clause-place : goal.compute-requires-clause-place
compute-requires-clause-place c =
    IsPlaceFor-grown (program_of c.place.new.code) (program_of c.store.new.code) c.bare-value.result.now c.in_ok-cell.cell
    c.in_ok-store.ensures.carries.grown c.in_ok-cell.ensures.place

pub returns-clause-carries : goal.returns-clause-carries
returns-clause-carries c =
    let old : Program = program_of c.args.code.now in
    let new : Program = program_of c.compute.new.code in
    on_ok_weaker c.compute.result
    (λ values.
    assigned-bare old new c.args.number c.args.target.now.parts c.args.value.now c.bare-value.result.now c.args.later
    c.bare-value.ensures.bare
    (placed-carries (λ p choice m n. after_set (signals_of p) c.args.target.now.parts (bit (assigned choice c.args.number n))
    c.args.later m)
    old (program_of c.place.new.code) (program_of c.store.new.code) new c.bare-value.result.now c.in_ok-cell.cell c.requires.sound
    c.in_ok-cell.ensures.grown c.in_ok-cell.ensures.instructions c.in_ok-cell.ensures.fresh c.in_ok-store.ensures.carries values))
    c.compute.ensures.values
