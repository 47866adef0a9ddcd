use Rattle.std.proofs.Common.{sym, subst}
use Rattle.cycle_code.specs.Program.{Program, program_of}
use Rattle.cycle_compile.proofs.Assigning.{target-fits}
use Rattle.cycle_compile.proofs.Outcomes.{on_ok-three}
use Rattle.cycle_sim.specs.Compiled.{Pushes, stored_now, none}
use Rattle.cycle_sim.proofs.Storing.{Pushes-assign, Pushes-store, store-fits}
use Rattle.cycle_sim.proofs.compiled.store.Goals as goal

pub push-requires-clause-fits : goal.push-requires-clause-fits
push-requires-clause-fits c =
    target-fits (program_of c.args.code.now) (program_of c.push_target.new.self) c.in-Some.place c.args.cell c.in_ok-target.target
    c.args.target.now.parts c.in_ok-target.ensures.number c.in_ok-target.ensures.value c.in_ok-target.ensures.grown
    (c.requires.place c.in-Some.place c.in-Some.is) c.requires.cell c.requires.parts

pub push-requires-in-None-clause-fits : goal.push-requires-in-None-clause-fits
push-requires-in-None-clause-fits c =
    store-fits (program_of c.args.code.now) (program_of c.push_target.new.self) 0 c.in_ok-target.target c.args.cell
    c.args.target.now.parts c.in_ok-target.ensures.number c.in_ok-target.ensures.value c.in_ok-target.ensures.grown c.requires.cell
    c.requires.parts

pub returns-in-Some-clause-pushes : goal.returns-in-Some-clause-pushes
returns-in-Some-clause-pushes c =
    let old : Program = program_of c.args.code.now in
    let new : Program = program_of c.push.new.self in
    on_ok-three c.push.result
    (λ is sound grown.
    subst (λ n. Pushes old new (stored_now c.args.target.now.parts n c.args.cell) none) (sym c.in-Some.is)
    (Pushes-assign old (program_of c.push_target.new.self) new c.in_ok-target.target c.in-Some.place c.args.cell
    c.args.target.now.parts c.in_ok-target.ensures.number c.in_ok-target.ensures.value c.in_ok-target.ensures.grown is sound grown
    c.requires.parts))
    c.push.ensures.value c.push.ensures.sound c.push.ensures.grown

pub returns-in-None-clause-pushes : goal.returns-in-None-clause-pushes
returns-in-None-clause-pushes c =
    let old : Program = program_of c.args.code.now in
    let new : Program = program_of c.push-in-None.new.self in
    on_ok-three c.push-in-None.result
    (λ is sound grown.
    subst (λ n. Pushes old new (stored_now c.args.target.now.parts n c.args.cell) none) (sym c.in-None.is)
    (Pushes-store old (program_of c.push_target.new.self) new c.in_ok-target.target c.args.cell c.args.target.now.parts
    c.in_ok-target.ensures.number c.in_ok-target.ensures.value c.in_ok-target.ensures.grown is sound grown c.requires.parts))
    c.push-in-None.ensures.value c.push-in-None.ensures.sound c.push-in-None.ensures.grown
