use Rattle.std.proofs.Common.{◌∙◌, ℕ, List, ap, subst, arith}
use Rattle.design_core.specs.declared.design.Design.{Design}
use Rattle.design_core.specs.Run.{start_state}
use Rattle.cycle_sim.specs.Simulated.{IsSimulable, Simulated}
use Rattle.cycle_sim.specs.Simulator.{held_by}
use Rattle.change_lines.specs.Lines.{Told}
use Rattle.change_lines.specs.Telling.{told_in}
use Rattle.change_lines.proofs.RunSteps.{stands-first, stands-last, stands-next}
use Rattle.change_lines.proofs.trace.Scene.push_lines.Goals as goal

pub loop-t-init : goal.loop-t-init
loop-t-init c =
    let s : Told = told_in c.args.self.now in
    record {
      sim = c.reset.ensures.sim;
      same = record {
        design = ap (λ (q : Simulated). q.design) c.reset.ensures.start;
        order = ap (λ (q : Simulated). q.order) c.reset.ensures.start;
      };
      entries = c.in_ok-entries.ensures;
      stands = λ run is.
          stands-first s c.args.self.now.number c.args.self.now.rerun.first c.args.self.now.rerun.trace.now run (held_by c.reset.new.self).state c.args.lines.now.items
          (ap (λ (q : Simulated). q.state) c.reset.ensures.start ∙ ap start_state c.requires.simulates.design) is;
    }

pub loop-t-preserved : goal.loop-t-preserved
loop-t-preserved c =
    let s : Told = told_in c.args.self.now in
    let order : List ℕ = (held_by c.args.sim.now).order in
    let k : IsSimulable s.design order =
    subst (λ (D : Design). IsSimulable D order) c.requires.simulates.design c.requires.simulates.simulable in
    record {
      sim = c.push_cycle.ensures.sim;
      same = record {
        design = c.push_cycle.ensures.step.design ∙ c.loop-t.invariant.same.design;
        order = c.push_cycle.ensures.step.order ∙ c.loop-t.invariant.same.order;
      };
      entries = c.push_cycle.ensures.entries;
      stands = λ run is.
          stands-next s c.args.self.now.number c.args.self.now.rerun.first order k c.args.self.now.rerun.trace.now run c.loop-t.t
          (held_by c.loop-t.sim) (held_by c.push_cycle.new.sim) c.args.lines.now.items c.loop-t.lines.items c.push_cycle.new.lines.items
          (c.loop-t.invariant.same.design ∙ c.requires.simulates.design) c.loop-t.invariant.same.order c.loop-t-test.true
          (c.loop-t.invariant.stands run is) c.push_cycle.ensures.step c.in_ok-push_cycle.ensures.lines;
    }

pub returns-clause-lines : goal.returns-clause-lines
returns-clause-lines c run is =
    stands-last (told_in c.args.self.now) c.args.self.now.number c.args.self.now.rerun.first c.args.self.now.rerun.trace.now run c.loop-t.t
    (held_by c.loop-t.sim).state c.args.lines.now.items c.loop-t.lines.items (omega (arith, c.loop-t-test.false)) (c.loop-t.invariant.stands run is)
