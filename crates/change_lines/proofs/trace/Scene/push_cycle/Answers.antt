use Rattle.std.proofs.Common.{subst, get_or}
use Rattle.design_core.specs.declared.design.Design.{Design}
use Rattle.design_core.specs.Words.{choice_of}
use Rattle.cycle_sim.specs.Simulated.{IsSimulable}
use Rattle.cycle_sim.specs.Simulator.{held_by}
use Rattle.change_lines.proofs.WordLaws.{taken-all}
use Rattle.change_lines.proofs.trace.Scene.push_cycle.Goals as goal

pub push_changes-requires-clause-moment : goal.push_changes-requires-clause-moment
push_changes-requires-clause-moment c =
    let k : IsSimulable c.args.self.now.rerun.design.now (held_by c.args.sim.now).order =
    subst (λ (D : Design). IsSimulable D (held_by c.args.sim.now).order) c.requires.simulates.design c.requires.simulates.simulable in
    record {
      well_formed = k.well_formed;
      order = (held_by c.args.sim.now).order;
      ordered = k.ordered;
      words = rw c.deref.ensures.value c.in_ok-words.ensures.words;
      chosen = rw (c.deref-2.ensures.value, c.deref-3.ensures.value) c.step.ensures.entries.chosen;
    }

pub push_changes-requires-clause-places : goal.push_changes-requires-clause-places
push_changes-requires-clause-places c =
    rw (c.deref-4.ensures.value, c.deref-3.ensures.value, c.step.ensures.entries.chosen.values) c.requires.scene.rerun.places

pub push_changes-requires-clause-taken : goal.push_changes-requires-clause-taken
push_changes-requires-clause-taken c i d low =
    taken-all c.args.self.now.rerun.design.now c.args.self.now.rerun.values.now c.args.self.now.rerun.first c.args.t
    (choice_of c.deref-2.result.now c.deref-3.result.now)
    (rw (c.deref-2.ensures.value, c.deref-3.ensures.value) c.step.ensures.chooses)
    (c.requires.scene.rows c.args.t c.requires.time) (get_or c.deref-4.result.now i d)

pub returns-clause-lines : goal.returns-clause-lines
returns-clause-lines c =
    rw (
      c.deref.ensures.value,
      c.deref-2.ensures.value,
      c.deref-3.ensures.value,
      c.deref-4.ensures.value,
      c.in_ok-words.ensures.values,
      c.step.ensures.chooses,
    ) at c.push_changes.ensures
