use Rattle.std.proofs.Common.{◌≡◌, ◌∷◌, [], sym, ◌∙◌}
use Rattle.std.proofs.lemmas.Result.{on_ok_weaker}
use Rattle.design_core.specs.declared.statement.Part.TheVariants.{Whole}
use Rattle.cycle_code.specs.Program.{program_of}
use Rattle.cycle_compile.proofs.Assigning.{whole_of-some}
use Rattle.cycle_sim.proofs.OwnDrivers.{cont-place, driver-whole, driver-parts, driver-comb}
use Rattle.cycle_sim.proofs.compiled.drive.Goals as goal

pub assign_whole-requires-clause-place : goal.assign_whole-requires-clause-place
assign_whole-requires-clause-place c =
    cont-place (program_of c.args.code.now) c.in-Cont.target c.in-Cont.value c.in-Cont.place c.in-Cont.span
    (rw c.in-Cont.is at c.requires.fits)

pub assign_parts-requires-clause-place : goal.assign_parts-requires-clause-place
assign_parts-requires-clause-place c =
    cont-place (program_of c.args.code.now) c.in-Cont.target c.in-Cont.value c.in-Cont.place c.in-Cont.span
    (rw c.in-Cont.is at c.requires.fits)

pub returns-in-Some-clause-pushes : goal.returns-in-Some-clause-pushes
returns-in-Some-clause-pushes c =
    let only : c.in-Cont.target.parts ≡ Whole c.in-Some.signal ∷ [] =
    whole_of-some c.in-Cont.target.parts c.in-Some.signal (rw c.deref.ensures at (sym c.whole_of.ensures ∙ c.in-Some.is)) in
    on_ok_weaker c.assign_whole.result
    (λ pushes.
    rw c.in-Cont.is
    (driver-whole (program_of c.args.code.now) (program_of c.assign_whole.new.code) c.in-Cont.target c.in-Cont.value
    c.in-Cont.place c.in-Cont.span
    c.in-Some.signal only pushes))
    c.assign_whole.ensures.pushes

pub returns-in-None-clause-pushes : goal.returns-in-None-clause-pushes
returns-in-None-clause-pushes c =
    on_ok_weaker c.assign_parts.result
    (λ pushes.
    rw c.in-Cont.is
    (driver-parts (program_of c.args.code.now) (program_of c.assign_parts.new.code) c.in-Cont.target c.in-Cont.value
    c.in-Cont.place c.in-Cont.span
    c.args.masks.now (rw c.in-Cont.is at c.requires.masks) (rw c.in-Cont.is at c.requires.fits) pushes))
    c.assign_parts.ensures.pushes

pub returns-in_ok-carry_out-in-Comb-clause-pushes : goal.returns-in_ok-carry_out-in-Comb-clause-pushes
returns-in_ok-carry_out-in-Comb-clause-pushes c =
    on_ok_weaker c.clear.result
    (λ pushes.
    rw c.in-Comb.is
    (driver-comb (program_of c.args.code.now) (program_of c.carry_out.new.code) (program_of c.clear.new.code) c.in-Comb.body c.in-Comb.span
    c.args.masks.now (rw c.in-Comb.is at c.requires.masks) (rw c.in-Comb.is at c.requires.fits)
    c.in_ok-carry_out-in-Comb.ensures.runs pushes))
    c.clear.ensures.pushes
