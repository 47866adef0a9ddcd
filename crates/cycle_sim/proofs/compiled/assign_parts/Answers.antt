use Rattle.std.proofs.lemmas.Result.{on_ok_weaker}
use Rattle.cycle_code.specs.Program.{Program, program_of, Grown}
use Rattle.cycle_code.proofs.GrowthLaws.{Grown-trans}
use Rattle.cycle_compile.proofs.Placing.{IsPlaceFor-grown}
use Rattle.cycle_compile.proofs.Wide.{node-wide}
use Rattle.cycle_sim.proofs.Storing.{Pushes-parts, IsCopy-grown, is-copy, move-fits}
use Rattle.cycle_sim.proofs.compiled.assign_parts.Goals as goal

pub temporary-requires-clause-width : goal.temporary-requires-clause-width
temporary-requires-clause-width c =
    node-wide c.args.code.now.design.now.signals.items c.args.value.now.width c.args.value.now.signed c.args.value.now.node
    c.requires.value

pub push-requires-clause-fits : goal.push-requires-clause-fits
push-requires-clause-fits c =
    let worded : Program = program_of c.temporary.new.self in
    let stored : Program = program_of c.store.new.code in
    let cleared : Program = program_of c.clear.new.code in
    let grown = Grown-trans worded stored cleared c.in_ok-store.ensures.pushes.grown c.in_ok-clear.ensures.pushes.grown in
    move-fits cleared 0 c.in_ok-cell.cell c.in_ok-word.word
    (IsCopy-grown worded cleared c.in_ok-cell.cell c.in_ok-word.word grown
    (is-copy (program_of c.place.new.code) worded c.args.value.now c.in_ok-cell.cell c.in_ok-word.word c.in_ok-cell.ensures.sound
    c.in_ok-cell.ensures.place c.in_ok-word.ensures.number c.in_ok-word.ensures.value c.in_ok-word.ensures.grown))

pub compute-requires-clause-place : goal.compute-requires-clause-place
compute-requires-clause-place c =
    let placed : Program = program_of c.place.new.code in
    let worded : Program = program_of c.temporary.new.self in
    let stored : Program = program_of c.store.new.code in
    let cleared : Program = program_of c.clear.new.code in
    let moved : Program = program_of c.push.new.self in
    let last = Grown-trans stored cleared moved c.in_ok-clear.ensures.pushes.grown c.in_ok-push.ensures.grown in
    let later : Grown worded moved = Grown-trans worded stored moved c.in_ok-store.ensures.pushes.grown last in
    IsPlaceFor-grown placed moved c.args.value.now c.in_ok-cell.cell (Grown-trans placed worded moved c.in_ok-word.ensures.grown later)
    c.in_ok-cell.ensures.place

pub returns-clause-pushes : goal.returns-clause-pushes
returns-clause-pushes c =
    on_ok_weaker c.compute.result
    (λ values.
    Pushes-parts (program_of c.args.code.now) (program_of c.place.new.code) (program_of c.temporary.new.self)
    (program_of c.store.new.code) (program_of c.clear.new.code) (program_of c.push.new.self) (program_of c.compute.new.code)
    c.args.masks.now c.args.target.now.parts c.args.number c.args.value.now c.in_ok-cell.cell c.in_ok-word.word c.requires.sound
    c.in_ok-cell.ensures.sound c.in_ok-cell.ensures.grown c.in_ok-cell.ensures.instructions c.in_ok-cell.ensures.fresh
    c.in_ok-cell.ensures.place c.in_ok-word.ensures.number c.in_ok-word.ensures.value c.in_ok-word.ensures.grown
    c.in_ok-store.ensures.pushes c.in_ok-clear.ensures.pushes c.in_ok-push.ensures.value c.in_ok-push.ensures.sound
    c.in_ok-push.ensures.grown values)
    c.compute.ensures.values
