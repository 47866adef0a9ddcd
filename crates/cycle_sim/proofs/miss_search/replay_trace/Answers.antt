use Rattle.std.proofs.Common.{◌++◌, ◌∷◌, [], ◌∙◌, ap, refl, arith, Some, None}
use Rattle.design_core.specs.declared.design.Design.{Design}
use Rattle.design_core.specs.declared.values.Values.{Values}
use Rattle.design_core.specs.Explained.{is_one_of}
use Rattle.cycle_sim.specs.Simulated.{Simulated}
use Rattle.cycle_sim.specs.Holding.{simulated_of}
use Rattle.cycle_sim.specs.Replaying.{choices_from}
use Rattle.cycle_sim.proofs.Running.{run-begin, run-next, run-end, run-misses, moved}
use Rattle.cycle_sim.proofs.miss_search.replay_trace.Goals as goal

pub loop-t-init : goal.loop-t-init
loop-t-init c =
    let values : Values = c.args.values.now in
    record {
      holding = c.requires.holding;
      design = refl;
      order = refl;
      length = refl;
      ready = c.requires.ready;
      run = λ k. (
        [],
        run-begin c.args.machine.now.design.now c.args.trace.now (is_one_of values.places.items)
            (choices_from values c.args.first) (simulated_of c.args.machine.now).state
            (ap (λ (s : Simulated). s.state) c.requires.start),
      );
    }

pub loop-t-preserved : goal.loop-t-preserved
loop-t-preserved c =
    let d : Design = c.args.machine.now.design.now in
    let values : Values = c.args.values.now in
    record {
      holding = c.replay_cycle.ensures.holding;
      design = c.replay_cycle.ensures.design ∙ c.loop-t.invariant.design;
      order = c.replay_cycle.ensures.order ∙ c.loop-t.invariant.order;
      length = c.replay_cycle.ensures.length ∙ c.loop-t.invariant.length;
      ready = c.replay_cycle.ensures.ready;
      run = λ k.
          let (front, to) = c.loop-t.invariant.run k in
          let r =
          moved d c.loop-t.machine.design.now c.args.machine.now.order.now c.loop-t.machine.order.now c.args.trace.now values
          c.args.first c.loop-t.t (simulated_of c.loop-t.machine).state (simulated_of c.replay_cycle.new.machine).state None
          c.loop-t.invariant.design c.loop-t.invariant.order c.in_default.ensures.answer k in (
            front ++ r.now ∷ [],
            run-next d c.args.trace.now (is_one_of values.places.items) (choices_from values c.args.first) c.loop-t.t
                (simulated_of c.loop-t.machine).state r.now (simulated_of c.replay_cycle.new.machine).state front
                c.loop-t-test.true to r.cycle r.wrong,
          );
    }

pub returns-in-Some-clause-answer : goal.returns-in-Some-clause-answer
returns-in-Some-clause-answer c k =
    let d : Design = c.args.machine.now.design.now in
    let values : Values = c.args.values.now in
    let (front, to) = c.loop-t.invariant.run k in
    let r =
    moved d c.loop-t.machine.design.now c.args.machine.now.order.now c.loop-t.machine.order.now c.args.trace.now values
    c.args.first c.loop-t.t (simulated_of c.loop-t.machine).state (simulated_of c.replay_cycle.new.machine).state
    (Some c.in-Some.output)
    c.loop-t.invariant.design c.loop-t.invariant.order c.in-Some.ensures.answer k in
    run-misses d c.args.machine.now.order.now k c.args.trace.now (is_one_of values.places.items)
    (choices_from values c.args.first) c.loop-t.t c.in-Some.output
    (simulated_of c.loop-t.machine).state r.now (simulated_of c.replay_cycle.new.machine).state front c.loop-t-test.true to r.cycle r.wrong

pub returns-clause-answer : goal.returns-clause-answer
returns-clause-answer c k =
    let d : Design = c.args.machine.now.design.now in
    let values : Values = c.args.values.now in
    let (front, to) = c.loop-t.invariant.run k in
    run-end d c.args.trace.now (is_one_of values.places.items) (choices_from values c.args.first) c.loop-t.t
    (simulated_of c.loop-t.machine).state front
    (omega (arith, c.loop-t-test.false, c.loop-t.auto.t-end)) to
