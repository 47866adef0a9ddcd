use Rattle.std.proofs.Common.{◌≤◌, ◌<◌, [], ◌∙◌, refl, sym, subst, ap, ap₂, length, arith}
use Rattle.design_core.specs.Given.{row}
use Rattle.std.proofs.lemmas.Grind.{common_steps}
use Rattle.gate_base.specs.Arena.{UnlessNoMemory}
use Rattle.gate_base.specs.Nodes.{counted}
use Rattle.gate_base.proofs.Counts.{refused-more}
use Rattle.unroller.specs.Cycles.{nodes_unrolled}
use Rattle.unroller.specs.Fields.{frame_of, unrolling_of}
use Rattle.unroller.specs.Unrolls.{samples_in, cycles_unrolled}
use Rattle.unroller.proofs.TraceSteps.{cycle-step, cycle-count, ends-after, frame-same, frame_from}
use Rattle.unroller.proofs.work.Work.trace.Goals as goal

pub loop-t-preserved : goal.loop-t-preserved
loop-t-preserved c =
    let u = unrolling_of c.loop-t.self in
    let ok = c.in_ok-frame-2.ensures.ok in
    let is_frame = frame-same c.len.result (length c.loop-t.self.ends) c.in_ok-frame.field-0 (samples_in c.args.trace.now c.loop-t.t)
    c.loop-t.frame.states c.loop-t.frame.grouped c.args.frame.now.grouped c.len.ensures c.in_ok-frame.ensures c.loop-t.invariant.grouped in
    let is_expected = c.row-expected.ensures ∙ ap₂ (λ xs w. row xs w c.loop-t.t) c.deref.ensures.value (c.len-in-loop-t.ensures ∙ ap length c.outputs.ensures) in
    let longer = ends-after c.args.circuit.now u (unrolling_of c.cycle.new.self) c.row-expected.result.now _ _ ok in
    record {
      limit = c.in_ok-frame-2.ensures.limit ∙ c.loop-t.invariant.limit;
      grouped = c.loop-t.invariant.grouped;
      many = omega (arith, longer, c.loop-t.invariant.many);
      rest = c.loop-t.invariant.rest
          ∙ cycle-step c.args.circuit.now (frame_of c.args.frame.now).grouped c.args.trace.now u (unrolling_of c.cycle.new.self) c.loop-t.frame.states
          c.in_ok-frame-2.field-0 c.loop-t.t c.args.trace.now.cycles _ c.row-expected.result.now _ c.loop-t-test.true is_frame refl is_expected ok
          c.in_ok-frame-2.ensures.states;
    }

pub returns-in_err-frame-2-clause-err : goal.returns-in_err-frame-2-clause-err
returns-in_err-frame-2-clause-err c =
    let is_frame = frame-same c.len.result (length c.loop-t.self.ends) c.in_ok-frame.field-0 (samples_in c.args.trace.now c.loop-t.t)
    c.loop-t.frame.states c.loop-t.frame.grouped c.args.frame.now.grouped c.len.ensures c.in_ok-frame.ensures c.loop-t.invariant.grouped in
    let whole = counted (cycles_unrolled c.args.circuit.now (frame_of c.args.frame.now).grouped c.args.trace.now (unrolling_of c.args.self.now)
    c.args.frame.now.states 0 c.args.trace.now.cycles).definitions in
    let frame = frame_from c.len.result c.in_ok-frame.field-0 c.loop-t.frame.states c.loop-t.frame.grouped in
    let count = counted (nodes_unrolled frame c.loop-t.self.maker.nodes [] c.args.circuit.now.nodes).nodes in
    let le = cycle-count c.args.circuit.now (frame_of c.args.frame.now).grouped c.args.trace.now (unrolling_of c.loop-t.self) c.loop-t.frame.states
    c.loop-t.t c.args.trace.now.cycles frame c.loop-t-test.true is_frame in
    let more : UnlessNoMemory c.in_err-frame-2.field-0.0 (c.args.self.now.maker.limit < whole) =
    refused-more c.in_err-frame-2.field-0.0 c.args.self.now.maker.limit count whole
    (subst (λ x. count ≤ counted x.definitions) (sym c.loop-t.invariant.rest) le)
    (subst (λ limit. UnlessNoMemory c.in_err-frame-2.field-0.0 (limit < count)) c.loop-t.invariant.limit c.in_err-frame-2.ensures.err) in
    grind (arith, common_steps, more)
