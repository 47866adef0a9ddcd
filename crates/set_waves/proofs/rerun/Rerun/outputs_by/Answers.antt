use Rattle.std.proofs.Common.{◌∙◌, ℕ, List, length, map, ap, subst, arith}
use Rattle.design_core.specs.declared.design.Design.{Design}
use Rattle.design_core.specs.Explained.{is_one_of}
use Rattle.design_core.specs.Run.{start_state}
use Rattle.cycle_sim.specs.Replaying.{choices_from}
use Rattle.cycle_sim.specs.Simulated.{IsSimulable, Simulated}
use Rattle.cycle_sim.specs.Simulator.{held_by}
use Rattle.vcd_waves.specs.Lines.{expected}
use Rattle.set_waves.proofs.RerunLaws.{outputs-more}
use Rattle.set_waves.proofs.RunOutputs.{stands-first, stands-last, stands-next}
use Rattle.set_waves.proofs.rerun.Rerun.outputs_by.Goals as goal

pub loop-t-init : goal.loop-t-init
loop-t-init c =
    let d : Design = c.args.self.now.design.now in
    record {
      sim = c.reset.ensures.sim;
      same = record {
        design = ap (λ (s : Simulated). s.design) c.reset.ensures.start;
        order = ap (λ (s : Simulated). s.order) c.reset.ensures.start;
      };
      entries = c.requires.entries;
      count = omega (arith, ap length c.new-outputs.ensures.items);
      stands = λ run is. rw c.new-outputs.ensures.items
          (stands-first d c.args.self.now.trace.now (is_one_of c.args.self.now.values.now.places.items)
          (choices_from c.args.self.now.values.now c.args.self.now.first) run (held_by c.reset.new.self).state
          (ap (λ (s : Simulated). s.state) c.reset.ensures.start ∙ ap start_state c.requires.simulates.design) is);
    }

pub loop-t-preserved : goal.loop-t-preserved
loop-t-preserved c =
    let d : Design = c.args.self.now.design.now in
    let order : List ℕ = (held_by c.args.sim.now).order in
    let k : IsSimulable d order =
    subst (λ (D : Design). IsSimulable D order) c.requires.simulates.design c.requires.simulates.simulable in
    record {
      sim = c.step.ensures.sim;
      same = record {
        design = c.step.ensures.step.design ∙ c.loop-t.invariant.same.design;
        order = c.step.ensures.step.order ∙ c.loop-t.invariant.same.order;
      };
      entries = c.step.ensures.entries;
      count = outputs-more d (held_by c.step.new.sim).values c.loop-t.outputs.items c.push_outputs.new.entries.items c.loop-t.t
          c.loop-t.invariant.count c.in_ok-push_outputs.ensures;
      stands = λ run is.
          stands-next d order k c.args.self.now.trace.now (is_one_of c.args.self.now.values.now.places.items)
          (choices_from c.args.self.now.values.now c.args.self.now.first) run c.loop-t.t (held_by c.loop-t.sim) (held_by c.step.new.sim)
          (map expected c.loop-t.outputs.items) (map expected c.push_outputs.new.entries.items)
          (c.loop-t.invariant.same.design ∙ c.requires.simulates.design) c.loop-t.invariant.same.order c.loop-t-test.true
          (c.loop-t.invariant.stands run is) c.step.ensures.step c.in_ok-push_outputs.ensures;
    }

pub returns-clause-outputs : goal.returns-clause-outputs
returns-clause-outputs c run is =
    stands-last c.args.self.now.design.now c.args.self.now.trace.now (is_one_of c.args.self.now.values.now.places.items)
    (choices_from c.args.self.now.values.now c.args.self.now.first) run c.loop-t.t (held_by c.loop-t.sim).state
    (map expected c.loop-t.outputs.items) (omega (arith, c.loop-t-test.false)) (c.loop-t.invariant.stands run is)
