use Rattle.std.proofs.Common.{◌≡◌, ap, ◌∙◌, refl, subst, sym, arith, rules, Err, Option}
use Rattle.sim_lines.specs.declared.lines.Wrong.{Wrong}
use Rattle.cycle_sim.specs.Simulated.{Simulated}
use Rattle.cycle_sim.specs.Simulator.{held_by}
use Rattle.sim_lines.specs.Lines.{cycle_lines}
use Rattle.sim_lines.specs.Shows.{Shows}
use Rattle.sim_lines.specs.Running.{design_of, order_of}
use Rattle.sim_lines.proofs.CycleLaws.{stands-failed, stands-first, stands-last, stands-shown}
use Rattle.sim_lines.proofs.EndLaws.{end-begin, end-last, end-next}
use Rattle.sim_lines.proofs.traces.show_cycles.Goals as goal

pub loop-cycle-init : goal.loop-cycle-init
loop-cycle-init g c =
    record {
      runner = c.requires.runner;
      same = record { design = refl; order = refl };
      tells = refl;
      faults = refl;
      end = end-begin (design_of c.args.runner.now) c.args.trace.now (held_by c.args.runner.now.sim).state (ap (λ (s : Simulated). s.state) c.requires.start);
      printed = λ told run is.
          stands-first (design_of c.args.runner.now) c.args.trace.now c.args.number run (held_by c.args.runner.now.sim).state (g.O.Sink.written c.args.out.now)
          (ap (λ (s : Simulated). s.state) c.requires.start) is;
    }

pub returns-in_err-show_cycle-clause-text : goal.returns-in_err-show_cycle-clause-text
returns-in_err-show_cycle-clause-text g c told run is =
    let same : c.from_residual.result ≡ Err c.in_err-show_cycle.field-0.0 = search rules in
    subst (λ r. Shows (cycle_lines (design_of c.args.runner.now) c.args.number 0 run) (g.O.Sink.written c.args.out.now) (g.O.Sink.written c.show_cycle.new.out) r) (sym same)
    (stands-failed (Unit {0}) (Option Wrong) (design_of c.args.runner.now) (order_of c.args.runner.now) c.requires.runner.can.simulable c.args.trace.now c.args.number run c.loop-cycle.cycle
    (held_by c.loop-cycle.runner.sim) (held_by c.show_cycle.new.self.sim) (g.O.Sink.written c.args.out.now) (g.O.Sink.written c.loop-cycle.out) (g.O.Sink.written c.show_cycle.new.out)
    c.in_err-show_cycle.field-0.0 c.loop-cycle.invariant.same.design c.loop-cycle.invariant.same.order c.loop-cycle-test.true (c.loop-cycle.invariant.printed told run is)
    c.show_cycle.ensures.step (c.in_err-show_cycle.ensures.text (c.loop-cycle.invariant.tells ∙ told)))

pub loop-cycle-preserved : goal.loop-cycle-preserved
loop-cycle-preserved g c =
    record {
      runner = c.show_cycle.ensures.runner;
      same = record {
        design = c.show_cycle.ensures.same.design ∙ c.loop-cycle.invariant.same.design;
        order = c.show_cycle.ensures.same.order ∙ c.loop-cycle.invariant.same.order;
      };
      tells = c.show_cycle.ensures.tells ∙ c.loop-cycle.invariant.tells;
      faults = c.in_ok-show_cycle.ensures.cause ∙ c.loop-cycle.invariant.faults;
      end =
          end-next (design_of c.args.runner.now) (order_of c.args.runner.now) c.requires.runner.can.simulable c.args.trace.now c.loop-cycle.cycle (held_by c.loop-cycle.runner.sim)
          (held_by c.show_cycle.new.self.sim) c.loop-cycle.miss c.end_after-miss.result c.loop-cycle.invariant.same.design c.loop-cycle.invariant.same.order c.loop-cycle-test.true
          c.show_cycle.ensures.step (design_of c.show_cycle.new.self) (c.show_cycle.ensures.same.design ∙ c.loop-cycle.invariant.same.design) c.end_after-miss.ensures c.loop-cycle.invariant.end;
      printed = λ told run is.
          stands-shown (design_of c.args.runner.now) (order_of c.args.runner.now) c.requires.runner.can.simulable c.args.trace.now c.args.number run c.loop-cycle.cycle
          (held_by c.loop-cycle.runner.sim) (held_by c.show_cycle.new.self.sim) (g.O.Sink.written c.args.out.now) (g.O.Sink.written c.loop-cycle.out) (g.O.Sink.written c.show_cycle.new.out)
          c.loop-cycle.invariant.same.design c.loop-cycle.invariant.same.order c.loop-cycle-test.true (c.loop-cycle.invariant.printed told run is) c.show_cycle.ensures.step
          (c.in_ok-show_cycle.ensures.text (c.loop-cycle.invariant.tells ∙ told));
    }

pub returns-clause-text : goal.returns-clause-text
returns-clause-text g c told run is =
    stands-last (design_of c.args.runner.now) c.args.trace.now c.args.number run c.loop-cycle.cycle (held_by c.loop-cycle.runner.sim).state (g.O.Sink.written c.args.out.now)
    (g.O.Sink.written c.loop-cycle.out) (omega (arith, c.loop-cycle-test.false)) (c.loop-cycle.invariant.printed told run is)

pub returns-clause-end : goal.returns-clause-end
returns-clause-end g c =
    end-last (design_of c.args.runner.now) c.args.trace.now c.loop-cycle.cycle (held_by c.loop-cycle.runner.sim).state c.loop-cycle.miss
    (omega (arith, c.loop-cycle-test.false, c.loop-cycle.auto.cycle-end)) c.loop-cycle.invariant.end
