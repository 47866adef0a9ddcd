use Rattle.std.proofs.Common.{sym, ◌∙◌, subst, List}
use Rattle.design_core.specs.declared.statement.Part.{Part}
use Rattle.cycle_code.specs.Program.{Program, program_of, signals_of}
use Rattle.cycle_compile.specs.Carrying.{Carries, set_left}
use Rattle.cycle_compile.proofs.Assigning.{set-carries, assign-carries, whole_of-some, target-fits, whole-within}
use Rattle.cycle_compile.proofs.Outcomes.{on_ok-three}
use Rattle.cycle_compile.proofs.assignment.store.Goals as goal

pub returns-in-Some-clause-carries : goal.returns-in-Some-clause-carries
returns-in-Some-clause-carries c =
    let old : Program = program_of c.args.code.now in
    let new : Program = program_of c.push.new.self in
    let parts : List Part = c.args.target.now.parts in
    let only = whole_of-some parts c.in-Some.signal (rw c.deref.ensures at (sym c.whole_of.ensures ∙ c.in-Some.is)) in
    on_ok-three c.push.result
    (λ is sound grown.
    subst (λ ps. Carries old new (set_left c.args.number ps c.args.cell c.args.later)) (sym only)
    (set-carries old new c.args.number c.args.cell c.in-Some.signal c.in_ok-to.to c.args.later c.requires.sound
    (whole-within (signals_of old) parts c.in-Some.signal only c.requires.parts) c.in_ok-to.ensures is sound grown))
    c.push.ensures.value c.push.ensures.sound c.push.ensures.grown

pub push-requires-2-clause-fits : goal.push-requires-2-clause-fits
push-requires-2-clause-fits c =
    target-fits (program_of c.args.code.now) (program_of c.push_target.new.self) c.args.number c.args.cell
    c.in_ok-target.target c.args.target.now.parts
    c.in_ok-target.ensures.number c.in_ok-target.ensures.value c.in_ok-target.ensures.grown c.requires.place c.requires.cell
    c.requires.parts

pub returns-clause-carries : goal.returns-clause-carries
returns-clause-carries c =
    on_ok-three c.push-2.result
    (λ is sound grown.
    assign-carries (program_of c.args.code.now) (program_of c.push_target.new.self) (program_of c.push-2.new.self) c.args.number c.args.cell
    c.in_ok-target.target c.args.target.now.parts c.args.later c.in_ok-target.ensures.number c.in_ok-target.ensures.value is sound
    c.in_ok-target.ensures.grown grown c.requires.parts)
    c.push-2.ensures.value c.push-2.ensures.sound c.push-2.ensures.grown
