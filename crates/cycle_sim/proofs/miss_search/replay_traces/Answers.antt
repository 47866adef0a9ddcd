use Rattle.std.proofs.Common.{◌≡◌, arith, refl, sym, subst, ◌∙◌, Some, None}
use Rattle.design_core.specs.declared.design.Design.{Design}
use Rattle.design_core.specs.declared.values.Values.{Values}
use Rattle.design_core.specs.TraceFits.{IsTraceOf}
use Rattle.design_core.specs.Explained.{is_one_of}
use Rattle.cycle_sim.specs.Holding.{simulated_of}
use Rattle.cycle_sim.specs.Replaying.{choices_from}
use Rattle.cycle_sim.proofs.Replayed.{stands-first, stands-next, rows-within, numbers-within, meet-next, meet-all, least-miss, reset-design, reset-order, answered, trace-of}
use Rattle.cycle_sim.proofs.miss_search.replay_traces.Goals as goal

pub loop-j-init : goal.loop-j-init
loop-j-init c =
    record {
      holding = c.requires.holding;
      design = refl;
      order = refl;
      length = refl;
      ready = c.requires.ready;
      here = stands-first c.args.traces.now c.args.values.now;
      before = λ k i trace below at. absurd (omega (arith, below));
    }

pub replay_trace-requires-clause-trace : goal.replay_trace-requires-clause-trace
replay_trace-requires-clause-trace c =
    let same : c.reset.new.self.design.now ≡ c.args.machine.now.design.now =
    reset-design c.args.machine.now.design.now c.loop-j.machine.design.now (simulated_of c.reset.new.self)
    c.loop-j.machine.order.now c.reset.ensures.start c.loop-j.invariant.design in
    subst (λ (D : Design). IsTraceOf D c.trace_at-trace.result.now) (sym same)
    (trace-of c.args.machine.now.design.now c.args.traces.now c.loop-j.j c.trace_at-trace.result.now c.requires.traces
    c.trace_at-trace.ensures)

pub replay_trace-requires-clause-rows : goal.replay_trace-requires-clause-rows
replay_trace-requires-clause-rows c =
    rows-within c.args.machine.now.design.now c.args.traces.now c.args.values.now c.loop-j.first c.loop-j.j
    c.trace_at-trace.result.now c.requires.values c.trace_at-trace.ensures c.loop-j.invariant.here

pub replay_trace-requires-clause-numbers : goal.replay_trace-requires-clause-numbers
replay_trace-requires-clause-numbers c =
    numbers-within c.args.values.now c.args.traces.now c.loop-j.first c.loop-j.j c.trace_at-trace.result.now.cycles
    18446744073709551616 c.loop-j.invariant.here
    (rows-within c.args.machine.now.design.now c.args.traces.now c.args.values.now c.loop-j.first c.loop-j.j
    c.trace_at-trace.result.now c.requires.values c.trace_at-trace.ensures c.loop-j.invariant.here)
    (omega (arith, c.args.values.now.rows.ok.0)) (omega (arith, c.cycle_count-cycles.ensures.value))

pub returns-in-Some-clause-answer : goal.returns-in-Some-clause-answer
returns-in-Some-clause-answer c k =
    let d : Design = c.args.machine.now.design.now in
    let values : Values = c.args.values.now in
    let same : c.reset.new.self.design.now ≡ d =
    reset-design d c.loop-j.machine.design.now (simulated_of c.reset.new.self) c.loop-j.machine.order.now
    c.reset.ensures.start c.loop-j.invariant.design in
    let alike : c.reset.new.self.order.now ≡ c.args.machine.now.order.now =
    reset-order c.loop-j.machine.design.now (simulated_of c.reset.new.self) c.args.machine.now.order.now
    c.loop-j.machine.order.now c.reset.ensures.start c.loop-j.invariant.order in
    least-miss d c.args.machine.now.order.now k c.args.traces.now values c.loop-j.first c.loop-j.j c.in-Some.cycle
    c.in-Some.output c.trace_at-trace.result.now c.trace_at-trace.ensures c.loop-j.invariant.here (c.loop-j.invariant.before k)
    (answered d c.reset.new.self.design.now c.args.machine.now.order.now c.reset.new.self.order.now
    c.trace_at-trace.result.now (is_one_of values.places.items) (choices_from values c.loop-j.first)
    (Some (c.in-Some.cycle, c.in-Some.output)) same alike c.in-Some.ensures.answer k) _ refl

pub overflow_add-first : goal.overflow_add-first
overflow_add-first c =
    let within = numbers-within c.args.values.now c.args.traces.now c.loop-j.first c.loop-j.j
    c.trace_at-trace.result.now.cycles 18446744073709551616 c.loop-j.invariant.here
    (rows-within c.args.machine.now.design.now c.args.traces.now c.args.values.now c.loop-j.first c.loop-j.j
    c.trace_at-trace.result.now c.requires.values c.trace_at-trace.ensures c.loop-j.invariant.here)
    (omega (arith, c.args.values.now.rows.ok.0)) (omega (arith, c.cycle_count-cycles.ensures.value)) in
    omega (arith, within, c.rows_for-first.ensures.few, c.cycle_count-cycles.ensures.value)

pub loop-j-preserved : goal.loop-j-preserved
loop-j-preserved c =
    let d : Design = c.args.machine.now.design.now in
    let values : Values = c.args.values.now in
    let same : c.reset.new.self.design.now ≡ d =
    reset-design d c.loop-j.machine.design.now (simulated_of c.reset.new.self) c.loop-j.machine.order.now
    c.reset.ensures.start c.loop-j.invariant.design in
    let alike : c.reset.new.self.order.now ≡ c.args.machine.now.order.now =
    reset-order c.loop-j.machine.design.now (simulated_of c.reset.new.self) c.args.machine.now.order.now
    c.loop-j.machine.order.now c.reset.ensures.start c.loop-j.invariant.order in
    record {
      holding = c.replay_trace.ensures.holding;
      design = c.replay_trace.ensures.design ∙ same;
      order = c.replay_trace.ensures.order ∙ alike;
      length = c.replay_trace.ensures.length ∙ c.loop-j.invariant.length;
      ready = c.replay_trace.ensures.ready;
      here = stands-next c.args.traces.now values c.loop-j.first c.loop-j.j c.rows_for-first.result
          c.trace_at-trace.result.now c.trace_at-trace.ensures c.loop-j.invariant.here
          (rw c.cycle_count-cycles.ensures.value at c.rows_for-first.ensures.rows) c.rows_for-first.ensures.none;
      before = λ k.
          meet-next d c.args.traces.now values c.loop-j.first c.loop-j.j c.trace_at-trace.result.now c.trace_at-trace.ensures
          c.loop-j.invariant.here (c.loop-j.invariant.before k)
          (answered d c.reset.new.self.design.now c.args.machine.now.order.now c.reset.new.self.order.now
          c.trace_at-trace.result.now (is_one_of values.places.items) (choices_from values c.loop-j.first) None same alike
          c.in_default.ensures.answer k);
    }

pub returns-clause-answer : goal.returns-clause-answer
returns-clause-answer c k = meet-all c.args.machine.now.design.now c.args.traces.now c.args.values.now c.loop-j.j
    (omega (arith, c.loop-j-test.false)) (c.loop-j.invariant.before k)
