use Rattle.std.proofs.Common.{◌≡◌, List, subst}
use Rattle.loc_base.specs.declared.bits.Bits.{Bits}
use Rattle.design_core.specs.declared.design.Design.{Design}
use Rattle.design_core.specs.After.{Choice}
use Rattle.design_core.specs.Run.{samples_at}
use Rattle.design_core.specs.Words.{choice_of}
use Rattle.cycle_sim.specs.Simulated.{Steps}
use Rattle.cycle_sim.specs.Simulator.{held_by}
use Rattle.sim_lines.specs.Running.{design_of, no_choice}
use Rattle.sim_lines.proofs.RunnerLaws.{none-chosen}
use Rattle.sim_lines.proofs.runner.Runner.step.Goals as goal

pub returns-clause-step : goal.returns-clause-step
returns-clause-step c =
    let d : Design = design_of c.args.self.now in
    let chosen : choice_of c.deref-2.result.now c.deref-3.result.now ≡ no_choice =
    rw (c.deref-2.ensures.value, c.deref-3.ensures.value) (none-chosen d c.args.self.now.freed.items c.args.self.now.choice.items c.requires.runner.frees) in
    let samples : c.row-samples.result.now ≡ samples_at d c.args.trace.now c.args.cycle =
    rw (c.deref.ensures.value, c.len.ensures, c.requires.runner.design, d.inputs.ok.0) at c.row-samples.ensures in
    subst (λ (S : List Bits). Steps S no_choice (held_by c.args.self.now.sim) (held_by c.step.new.self)) samples
    (subst (λ (C : Choice). Steps c.row-samples.result.now C (held_by c.args.self.now.sim) (held_by c.step.new.self)) chosen c.step.ensures.step)
