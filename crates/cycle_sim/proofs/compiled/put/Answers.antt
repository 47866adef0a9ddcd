use Rattle.std.proofs.Common.{sym, subst}
use Rattle.cycle_code.specs.Program.{Program, program_of}
use Rattle.cycle_compile.proofs.Outcomes.{on_ok-three}
use Rattle.cycle_sim.specs.Compiled.{Pushes, put_now, none}
use Rattle.cycle_sim.proofs.Assigned.{Pushes-set, Pushes-put}
use Rattle.cycle_sim.proofs.compiled.put.Goals as goal

pub returns-in-Some-clause-pushes : goal.returns-in-Some-clause-pushes
returns-in-Some-clause-pushes c =
    let old : Program = program_of c.args.code.now in
    let new : Program = program_of c.push.new.self in
    on_ok-three c.push.result
    (λ is sound grown.
    subst (λ n. Pushes old new (put_now c.args.signal n c.args.cell) none) (sym c.in-Some.is)
    (Pushes-set old new c.args.signal c.in-Some.place c.args.cell c.requires.sound c.requires.signal is sound grown))
    c.push.ensures.value c.push.ensures.sound c.push.ensures.grown

pub returns-in-None-clause-pushes : goal.returns-in-None-clause-pushes
returns-in-None-clause-pushes c =
    let old : Program = program_of c.args.code.now in
    let new : Program = program_of c.push-in-None.new.self in
    on_ok-three c.push-in-None.result
    (λ is sound grown.
    subst (λ n. Pushes old new (put_now c.args.signal n c.args.cell) none) (sym c.in-None.is)
    (Pushes-put old new c.args.signal c.args.cell c.requires.sound c.requires.signal is sound grown))
    c.push-in-None.ensures.value c.push-in-None.ensures.sound c.push-in-None.ensures.grown
