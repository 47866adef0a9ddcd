use Rattle.std.proofs.Common.{◌≡◌, ◌+◌, ◌∙◌, Bool, subst, sym, arith, rules, Err}
use Rattle.design_core.specs.declared.design.Design.{Design}
use Rattle.design_core.specs.TraceFits.{IsTraceOf}
use Rattle.cycle_sim.proofs.Replayed.{trace-of}
use Rattle.sim_lines.specs.Lines.{AreLinesOf}
use Rattle.sim_lines.specs.Shows.{Shows}
use Rattle.sim_lines.proofs.RightLaws.{right-all, right-next}
use Rattle.sim_lines.proofs.TraceLaws.{printed-all, printed-next, printed-stopped}
use Rattle.sim_lines.proofs.traces.show_traces.Goals as goal

pub show_trace-requires-clause-trace : goal.show_trace-requires-clause-trace
show_trace-requires-clause-trace g c =
    subst (λ (D : Design). IsTraceOf D c.trace_at.result.now) (sym c.loop-j.invariant.design)
    (trace-of c.args.simulation.now.design.now c.args.simulation.now.traces.now c.loop-j.j c.trace_at.result.now c.requires.traces.each c.trace_at.ensures)

pub returns-in_err-is_right-clause-text : goal.returns-in_err-is_right-clause-text
returns-in_err-is_right-clause-text g c told lines are =
    let same : c.from_residual-in_err-is_right.result ≡ Err c.in_err-is_right.field-0.0 = search rules in
    let d : Design = c.args.simulation.now.design.now in
    subst (λ r. Shows lines (g.O.Sink.written c.args.out.now) (g.O.Sink.written c.show_trace.new.out) r) (sym same)
    (printed-stopped Bool Bool d c.args.simulation.now.traces.now lines c.loop-j.j c.trace_at.result.now (g.O.Sink.written c.args.out.now) (g.O.Sink.written c.loop-j.out)
    (g.O.Sink.written c.show_trace.new.out) c.in_err-is_right.field-0.0 c.trace_at.ensures (c.loop-j.invariant.printed told lines are)
    (λ own is. c.in_err-is_right.ensures.text (c.loop-j.invariant.tells ∙ told) own
    (subst (λ (D : Design). AreLinesOf D (c.loop-j.j + 1) c.trace_at.result.now own) (sym c.loop-j.invariant.design) is)))

pub loop-j-preserved : goal.loop-j-preserved
loop-j-preserved g c =
    record {
      runner = c.show_trace.ensures.runner;
      design = c.show_trace.ensures.same.design ∙ c.loop-j.invariant.design;
      tells = c.show_trace.ensures.tells ∙ c.loop-j.invariant.tells;
      faults = c.in_ok-is_right.ensures.cause ∙ c.loop-j.invariant.faults;
      printed = λ told lines are.
          printed-next c.args.simulation.now.design.now c.args.simulation.now.traces.now lines c.loop-j.j c.trace_at.result.now (g.O.Sink.written c.args.out.now)
          (g.O.Sink.written c.loop-j.out) (g.O.Sink.written c.show_trace.new.out) c.trace_at.ensures (c.loop-j.invariant.printed told lines are)
          (λ own is. c.in_ok-is_right.ensures.text (c.loop-j.invariant.tells ∙ told) own
          (subst (λ (D : Design). AreLinesOf D (c.loop-j.j + 1) c.trace_at.result.now own) (sym c.loop-j.invariant.design) is));
      right = λ lines are.
          right-next c.args.simulation.now.design.now c.args.simulation.now.traces.now lines c.loop-j.j c.trace_at.result.now c.loop-j.right
          c.in_ok-is_right.is_right c.trace_at.ensures (c.loop-j.invariant.right lines are)
          (λ own is. c.in_ok-is_right.ensures.right own
          (subst (λ (D : Design). AreLinesOf D (c.loop-j.j + 1) c.trace_at.result.now own) (sym c.loop-j.invariant.design) is));
    }

pub returns-clause-text : goal.returns-clause-text
returns-clause-text g c told lines are =
    printed-all c.args.simulation.now.design.now c.args.simulation.now.traces.now lines c.loop-j.j (g.O.Sink.written c.args.out.now) (g.O.Sink.written c.loop-j.out)
    (omega (arith, c.loop-j-test.false, c.loop-j.auto.j-end)) (c.loop-j.invariant.printed told lines are)

pub returns-clause-right : goal.returns-clause-right
returns-clause-right g c lines are =
    right-all c.args.simulation.now.design.now c.args.simulation.now.traces.now lines c.loop-j.j c.loop-j.right
    (omega (arith, c.loop-j-test.false, c.loop-j.auto.j-end)) (c.loop-j.invariant.right lines are)
