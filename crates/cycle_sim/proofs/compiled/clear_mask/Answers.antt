use Rattle.cycle_code.specs.Program.{Program, program_of}
use Rattle.cycle_compile.proofs.Outcomes.{on_ok-three}
use Rattle.cycle_sim.proofs.Clearing.{are-made, and-fits, Pushes-masked}
use Rattle.cycle_sim.proofs.compiled.clear_mask.Goals as goal

pub push-requires-2-clause-fits : goal.push-requires-2-clause-fits
push-requires-2-clause-fits c =
    let old : Program = program_of c.args.code.now in
    let two : Program = program_of c.temporary.new.self in
    let made = are-made old (program_of c.constant.new.self) two c.args.mask c.not.result c.width.result c.in_ok-others.others
    c.in_ok-rest.rest c.requires.sound c.in_ok-others.ensures.sound c.in_ok-rest.ensures.sound c.requires.fits
    c.not.ensures.width c.not.ensures.value c.in_ok-others.ensures.number c.in_ok-others.ensures.value
    c.in_ok-others.ensures.grown c.width.ensures c.in_ok-rest.ensures.number c.in_ok-rest.ensures.value c.in_ok-rest.ensures.grown in
    and-fits old two (program_of c.push.new.self) 0 c.args.mask c.in_ok-signal.signal c.in_ok-others.others c.in_ok-rest.rest made
    c.in_ok-signal.ensures c.in_ok-push.ensures.sound c.in_ok-push.ensures.grown

pub returns-clause-pushes : goal.returns-clause-pushes
returns-clause-pushes c =
    let old : Program = program_of c.args.code.now in
    let two : Program = program_of c.temporary.new.self in
    let made = are-made old (program_of c.constant.new.self) two c.args.mask c.not.result c.width.result c.in_ok-others.others
    c.in_ok-rest.rest c.requires.sound c.in_ok-others.ensures.sound c.in_ok-rest.ensures.sound c.requires.fits
    c.not.ensures.width c.not.ensures.value c.in_ok-others.ensures.number c.in_ok-others.ensures.value
    c.in_ok-others.ensures.grown c.width.ensures c.in_ok-rest.ensures.number c.in_ok-rest.ensures.value c.in_ok-rest.ensures.grown in
    on_ok-three c.push-2.result
    (λ is sound grown.
    Pushes-masked old two (program_of c.push.new.self) (program_of c.push-2.new.self) c.args.mask c.in_ok-signal.signal
    c.in_ok-others.others c.in_ok-rest.rest c.requires.sound made c.in_ok-signal.ensures c.in_ok-push.ensures.value
    c.in_ok-push.ensures.sound c.in_ok-push.ensures.grown is sound grown)
    c.push-2.ensures.value c.push-2.ensures.sound c.push-2.ensures.grown
