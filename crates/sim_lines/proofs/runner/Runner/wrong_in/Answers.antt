use Rattle.std.proofs.Common.{◌≡◌, List, Some, refl, subst}
use Rattle.std.proofs.lemmas.Option.{slice_get_within}
use Rattle.design_core.specs.declared.design.Design.{Design}
use Rattle.design_core.specs.declared.trace.Checked.{Checked}
use Rattle.design_core.specs.Run.{expected_at}
use Rattle.cycle_sim.specs.Replaying.{FirstWrong}
use Rattle.cycle_sim.specs.Simulator.{held_by}
use Rattle.sim_lines.specs.Running.{design_of}
use Rattle.sim_lines.proofs.runner.Runner.wrong_in.Goals as goal

pub returns-in-Some : goal.returns-in-Some
returns-in-Some g c =
    let d : Design = design_of c.args.self.now in
    let expected : c.row-expected.result.now ≡ expected_at d c.args.trace.now c.args.moment.cycle =
    rw (c.deref.ensures.value, c.len.ensures, c.requires.runner.design, d.outputs.ok.0) at c.row-expected.ensures in (
      refl,
      subst (λ (e : List Checked). FirstWrong d e (held_by c.args.self.now.sim).values (Some c.in-Some.output)) expected
          (subst (λ (D : Design). FirstWrong D c.row-expected.result.now (held_by c.args.self.now.sim).values (Some c.in-Some.output)) c.requires.runner.design c.in-Some.ensures),
    )

pub note_miss-requires-clause-output : goal.note_miss-requires-clause-output
note_miss-requires-clause-output g c =
    let wrong = c.in-Some.ensures.0 in slice_get_within c.row-expected.result.now c.in-Some.output wrong.checked wrong.is_checked
