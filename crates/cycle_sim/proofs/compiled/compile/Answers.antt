use Rattle.std.proofs.Common.{List, ◌∙◌, ap, subst}
use Rattle.design_core.specs.declared.driver.Clocked.{Clocked}
use Rattle.cycle_code.specs.Program.{Program, program_of, Grown}
use Rattle.cycle_code.proofs.GrowthLaws.{Grown-trans}
use Rattle.cycle_sim.specs.Compiled.{AreBodies, AreResets}
use Rattle.cycle_sim.proofs.Pushing.{Drives-grown}
use Rattle.cycle_sim.proofs.Ranges.{AreBodies-grown}
use Rattle.cycle_sim.proofs.compiled.compile.Goals as goal

pub returns : goal.returns
returns c =
    let driven : Program = program_of c.drive_all.new.code in
    let carried : Program = program_of c.carry_bodies.new.code in
    let new : Program = program_of c.carry_resets.new.code in
    let grown : Grown driven new = Grown-trans driven carried new c.in_ok-bodies.ensures.grown c.in_ok-resets.ensures.grown in
    record {
      design = grown.design ∙ c.in_ok-drivers.ensures.grown.design ∙ ap (λ (p : Program). p.design) c.in_ok-code.ensures.value;
      sound = c.in_ok-resets.ensures.sound;
      drivers = Drives-grown driven new c.in_ok-drivers.drivers c.args.order.now grown c.in_ok-drivers.ensures.drives;
      bodies = subst (λ (blocks : List Clocked). AreBodies new blocks c.in_ok-bodies.bodies.items) c.deref.ensures.value
          (AreBodies-grown carried new c.deref.result.now c.in_ok-bodies.bodies.items c.in_ok-resets.ensures.grown
          c.in_ok-bodies.ensures.bodies);
      resets = subst (λ (blocks : List Clocked). AreResets new blocks c.in_ok-resets.resets.items) c.deref-2.ensures.value
          c.in_ok-resets.ensures.resets;
    }
