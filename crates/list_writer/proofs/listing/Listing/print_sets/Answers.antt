use Rattle.std.proofs.Common.{◌<◌, [], ◌∷◌, Some, sym, ◌∙◌, arith, length}
use Rattle.std.proofs.lemmas.Result.{err_from_is_err_and}
use Rattle.write_order.specs.Writes.{on_sink, print_piece}
use Rattle.list_writer.specs.Jobs.{asked_of}
use Rattle.list_writer.specs.Texts.{lines_of}
use Rattle.list_writer.proofs.Opening.{line-done, line-stopped, lines-done, sink-same}
use Rattle.list_writer.proofs.Runs.{stopped-ok}
use Rattle.list_writer.proofs.listing.Listing.print_sets.Goals as goal

pub returns-in_err-stopped-clause-left : goal.returns-in_err-stopped-clause-left
returns-in_err-stopped-clause-left g c =
    let p = err_from_is_err_and c.from_residual.result c.from_residual.ensures.1 in
    rw (p.1, p.2) (λ told written.
    let found = c.args.self.now.found.items in
    let printed = g.O.Sink.written in
    let low : c.loop-count.count < length found =
    omega (arith, c.loop-count-test.true, c.len-count-end.ensures, c.args.self.now.found.ok.0) in
    line-stopped (asked_of c.args.self.now.job) found c.loop-count.count c.index.result.now c.index.result.now low (sym c.index.ensures) written
    (printed c.args.out.now) (printed c.loop-count.out) (printed c.print_set-printed.new.out) (c.loop-count.invariant.left told written)
    c.print_set-printed.result c.in_err-stopped.field-0.0 (sym c.stopped.ensures ∙ c.in_err-stopped.was)
    (c.print_set-printed.ensures.left (c.loop-count.invariant.tells ∙ told) written))

pub loop-count-preserved : goal.loop-count-preserved
loop-count-preserved g c = record {
  tells = c.print_set-printed.ensures.tells ∙ c.loop-count.invariant.tells;
  faults = sink-same (g.O.Sink.faults c.args.out.now) (g.O.Sink.faults c.loop-count.out) (g.O.Sink.faults c.print_set-printed.new.out)
      c.print_set-printed.result (Some c.loop-count.count) c.in_ok-stopped.field-0 c.loop-count.invariant.faults
      (sym c.stopped.ensures ∙ c.in_ok-stopped.was) c.print_set-printed.ensures.cause;
  left = λ told written.
      let found = c.args.self.now.found.items in
      let set = c.index.result.now in
      let printed = g.O.Sink.written in
      let low : c.loop-count.count < length found =
      omega (arith, c.loop-count-test.true, c.len-count-end.ensures, c.args.self.now.found.ok.0) in
      line-done (asked_of c.args.self.now.job) found c.loop-count.count set set low (sym c.index.ensures) written
      (printed c.args.out.now) (printed c.loop-count.out) (printed c.print_set-printed.new.out) (c.loop-count.invariant.left told written)
      (stopped-ok (print_piece (lines_of (asked_of c.args.self.now.job) set) ∷ [])
      (on_sink written (printed c.loop-count.out) (printed c.print_set-printed.new.out)) c.print_set-printed.result (Some c.loop-count.count)
      c.in_ok-stopped.field-0 (sym c.stopped.ensures ∙ c.in_ok-stopped.was)
      (c.print_set-printed.ensures.left (c.loop-count.invariant.tells ∙ told) written));
}

pub returns-clause-left : goal.returns-clause-left
returns-clause-left g c = λ told written.
    lines-done (asked_of c.args.self.now.job) c.args.self.now.found.items c.loop-count.count
    (on_sink written (g.O.Sink.written c.args.out.now) (g.O.Sink.written c.loop-count.out))
    (omega (arith, c.loop-count-test.false, c.len-count-end.ensures, c.args.self.now.found.ok.0)) (c.loop-count.invariant.left told written)
