use Rattle.std.proofs.Common.{◌<◌, ◌≤◌, ◌++◌, ◌∷◌, [], ◌∙◌, ap, sym, subst, drop, map, arith}
use Rattle.std.proofs.lemmas.Grind.{common_steps}
use Rattle.gate_base.specs.Arena.{UnlessNoMemory}
use Rattle.gate_base.specs.Nodes.{counted}
use Rattle.gate_base.proofs.Counts.{refused-more}
use Rattle.unroller.specs.Fields.{frame_of, unrolling_of}
use Rattle.unroller.specs.Unrolls.{constant_word, cycles_unrolled, traces_unrolled}
use Rattle.unroller.proofs.TraceSteps.{trace-step, trace-count, ends-step, before-trace, in_table, table-same, cycles-left, traces-end}
use Rattle.unroller.proofs.work.Work.traces.Goals as goal

pub loop-i-preserved : goal.loop-i-preserved
loop-i-preserved c =
    let u = unrolling_of c.loop-i.self in
    let trace = c.index-traces-i.result in
    let g = in_table c.loop-i.frame.grouped in
    let v = record u { firsts = c.push.new.self } in
    let is_grouped = table-same c.loop-i.frame.grouped c.args.frame.now.grouped c.loop-i.invariant.grouped in
    let is_before = before-trace u c.push.new.self (c.in_ok-push.ensures.ok ∙ ap (λ n. c.loop-i.self.firsts ++ n ∷ []) c.len.ensures) in
    let is_start = c.in_ok-frame.ensures ∙ ap (map constant_word) c.start.ensures in
    let ok = c.in_ok-trace.ensures.ok in
    let longer = ends-step c.args.circuit.now (frame_of c.args.frame.now).grouped g c.args.traces.now c.loop-i.i trace u v c.in_ok-frame.field-0
    c.loop-i-test.true c.index-traces-i.is is_grouped is_before is_start (unrolling_of c.trace.new.self) ok in
    record {
      limit = c.in_ok-trace.ensures.limit ∙ c.loop-i.invariant.limit;
      grouped = c.in_ok-trace.ensures.grouped ∙ c.loop-i.invariant.grouped;
      many = omega (
        arith,
        longer,
        cycles-left c.args.traces.now c.loop-i.i trace c.loop-i-test.true c.index-traces-i.is,
        c.loop-i.invariant.many,
      );
      rest = c.loop-i.invariant.rest
          ∙ trace-step c.args.circuit.now (frame_of c.args.frame.now).grouped g c.args.traces.now c.loop-i.i trace u v c.in_ok-frame.field-0
          c.loop-i-test.true c.index-traces-i.is is_grouped is_before is_start (unrolling_of c.trace.new.self) ok;
    }

pub returns-in_err-trace-clause-err : goal.returns-in_err-trace-clause-err
returns-in_err-trace-clause-err c =
    let u = unrolling_of c.loop-i.self in
    let trace = c.index-traces-i.result in
    let g = in_table c.loop-i.frame.grouped in
    let v = record u { firsts = c.push.new.self } in
    let is_grouped = table-same c.loop-i.frame.grouped c.args.frame.now.grouped c.loop-i.invariant.grouped in
    let is_before = before-trace u c.push.new.self (c.in_ok-push.ensures.ok ∙ ap (λ n. c.loop-i.self.firsts ++ n ∷ []) c.len.ensures) in
    let is_start = c.in_ok-frame.ensures ∙ ap (map constant_word) c.start.ensures in
    let whole = counted (traces_unrolled c.args.circuit.now (frame_of c.args.frame.now).grouped (unrolling_of c.args.self.now) c.args.traces.now).definitions in
    let count = counted (cycles_unrolled c.args.circuit.now g trace v c.in_ok-frame.field-0 0 trace.cycles).definitions in
    let le : count ≤ counted (traces_unrolled c.args.circuit.now (frame_of c.args.frame.now).grouped u (drop c.loop-i.i c.args.traces.now)).definitions =
    trace-count c.args.circuit.now (frame_of c.args.frame.now).grouped g c.args.traces.now c.loop-i.i trace u v c.in_ok-frame.field-0
    c.loop-i-test.true c.index-traces-i.is is_grouped is_before is_start in
    let more : UnlessNoMemory c.in_err-trace.field-0.0 (c.args.self.now.maker.limit < whole) =
    refused-more c.in_err-trace.field-0.0 c.args.self.now.maker.limit count whole
    (subst (λ x. count ≤ counted x.definitions) (sym c.loop-i.invariant.rest) le)
    (subst (λ limit. UnlessNoMemory c.in_err-trace.field-0.0 (limit < count)) c.loop-i.invariant.limit c.in_err-trace.ensures.err) in
    grind (arith, common_steps, more)

pub returns-clause-ok : goal.returns-clause-ok
returns-clause-ok c =
    sym (c.loop-i.invariant.rest
    ∙ traces-end c.args.circuit.now (frame_of c.args.frame.now).grouped c.args.traces.now c.loop-i.i (unrolling_of c.loop-i.self) (omega arith))
