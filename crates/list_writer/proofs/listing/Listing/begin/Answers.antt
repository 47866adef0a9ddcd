use Rattle.std.proofs.Common.{List, [], ◌∷◌, ◌++◌, Some, None, sym, ◌∙◌, subst}
use Rattle.std.specs.Prelude.{IsSome}
use Rattle.std.proofs.lemmas.Result.{err_from_is_err_and}
use Rattle.clause_base.specs.declared.log.Step.{Step}
use Rattle.log_portions.specs.Portions.{head_text, steps_text}
use Rattle.proof_check.specs.Text.{IsDigest}
use Rattle.write_order.specs.Writes.{AreDone, Leaves, begin_text, put_piece}
use Rattle.list_writer.specs.Going.{outputs}
use Rattle.list_writer.specs.Jobs.{asked_with, session_of}
use Rattle.list_writer.proofs.Finished.{on-ok}
use Rattle.list_writer.proofs.Opening.{head-done, head_put, open-begin, open-head, open-lines, sink-causes}
use Rattle.list_writer.proofs.Runs.{stopped-ok, stopped-on_ok, stopped-same}
use Rattle.list_writer.proofs.listing.Listing.begin.Goals as goal

pub returns-in_err-stopped-clause-left : goal.returns-in_err-stopped-clause-left
returns-in_err-stopped-clause-left g c =
    let p = err_from_is_err_and c.from_residual.result c.from_residual.ensures.1 in
    rw (p.1, p.2) (λ told_shelf told_sink.
    let asked = asked_with c.args.self.now.job (session_of c.args.self.now.found.items (g.D.Search.state c.args.self.now.search)) in
    let printed = g.O.Sink.written c.args.out.now in
    open-begin asked (outputs (g.S.Shelf.written c.args.shelf.now) (g.S.Shelf.written c.begin_log.new.shelf) printed printed)
    c.begin_log.result c.in_err-stopped.field-0.0 (sym c.stopped.ensures ∙ c.in_err-stopped.was)
    (c.begin_log.ensures.left told_shelf printed))

pub returns-in_err-stopped-2-clause-left : goal.returns-in_err-stopped-2-clause-left
returns-in_err-stopped-2-clause-left g c =
    let p = err_from_is_err_and c.from_residual-in_err-stopped-2.result c.from_residual-in_err-stopped-2.ensures.1 in
    rw (p.1, p.2) (λ told_shelf told_sink.
    let job = c.args.self.now.job in
    let asked = asked_with job (session_of c.args.self.now.found.items (g.D.Search.state c.args.self.now.search)) in
    let printed = g.O.Sink.written c.args.out.now in
    let first = g.S.Shelf.written c.args.shelf.now in
    let begun = g.S.Shelf.written c.begin_log.new.shelf in
    let put = g.S.Shelf.written c.put_head.new.shelf in
    let begin-done : AreDone (begin_text job.log.now ∷ []) (outputs first begun printed printed) =
    stopped-ok (begin_text job.log.now ∷ []) (outputs first begun printed printed) c.begin_log.result None c.in_ok-stopped.field-0
    (sym c.stopped.ensures ∙ c.in_ok-stopped.was) (c.begin_log.ensures.left told_shelf printed) in
    open-head asked first begun put printed printed printed begin-done c.put_head.result c.in_err-stopped-2.field-0.0
    (sym c.stopped-2.ensures ∙ c.in_err-stopped-2.was)
    (subst (λ (steps : List Step). Leaves (put_piece job.log.now (head_text job.inputs ++ steps_text steps) ∷ [])
    (outputs begun put printed printed) c.put_head.result) c.log.ensures
    (c.put_head.ensures.left (c.begin_log.ensures.tells ∙ told_shelf) printed)))

pub returns-clause-left : goal.returns-clause-left
returns-clause-left g c = λ told_shelf told_sink.
    let job = c.args.self.now.job in
    let asked = asked_with job (session_of c.args.self.now.found.items (g.D.Search.state c.args.self.now.search)) in
    let printed = g.O.Sink.written c.args.out.now in
    let first = g.S.Shelf.written c.args.shelf.now in
    let begun = g.S.Shelf.written c.begin_log.new.shelf in
    let put = g.S.Shelf.written c.put_head.new.shelf in
    let begin-done : AreDone (begin_text job.log.now ∷ []) (outputs first begun printed printed) =
    stopped-ok (begin_text job.log.now ∷ []) (outputs first begun printed printed) c.begin_log.result None c.in_ok-stopped.field-0
    (sym c.stopped.ensures ∙ c.in_ok-stopped.was) (c.begin_log.ensures.left told_shelf printed) in
    let put-done : AreDone (head_put asked ∷ []) (outputs begun put printed printed) =
    stopped-ok (head_put asked ∷ []) (outputs begun put printed printed) c.put_head.result (Some 0) c.in_ok-stopped-2.field-0
    (sym c.stopped-2.ensures ∙ c.in_ok-stopped-2.was)
    (subst (λ (steps : List Step). Leaves (put_piece job.log.now (head_text job.inputs ++ steps_text steps) ∷ [])
    (outputs begun put printed printed) c.put_head.result) c.log.ensures
    (c.put_head.ensures.left (c.begin_log.ensures.tells ∙ told_shelf) printed)) in
    open-lines asked first put put printed printed (g.O.Sink.written c.print_sets.new.out)
    (head-done asked first begun put printed printed printed begin-done put-done) c.print_sets.result
    (c.print_sets.ensures.left told_sink put)

pub returns-clause-begun : goal.returns-clause-begun
returns-clause-begun g c = λ tells.
    let job = c.args.self.now.job in
    on-ok _ c.print_sets.result
    (stopped-on_ok (IsSome (g.S.Shelf.written c.put_head.new.shelf job.log.now)) c.put_head.result (Some 0) c.in_ok-stopped-2.field-0
    (sym c.stopped-2.ensures ∙ c.in_ok-stopped-2.was) (c.put_head.ensures.begun (c.begin_log.ensures.tells ∙ tells)))

pub returns-clause-digest : goal.returns-clause-digest
returns-clause-digest g c =
    on-ok _ c.print_sets.result
    (stopped-on_ok (IsDigest c.args.self.now.job.inputs) c.put_head.result (Some 0) c.in_ok-stopped-2.field-0
    (sym c.stopped-2.ensures ∙ c.in_ok-stopped-2.was) c.put_head.ensures.digest)

pub returns-clause-causes : goal.returns-clause-causes
returns-clause-causes g c =
    let faults = g.S.Shelf.faults in
    let begun = stopped-same (faults c.args.shelf.now) (faults c.begin_log.new.shelf) c.begin_log.result None c.in_ok-stopped.field-0
    (sym c.stopped.ensures ∙ c.in_ok-stopped.was) c.begin_log.ensures.cause in
    let put = stopped-same (faults c.begin_log.new.shelf) (faults c.put_head.new.shelf) c.put_head.result (Some 0) c.in_ok-stopped-2.field-0
    (sym c.stopped-2.ensures ∙ c.in_ok-stopped-2.was) c.put_head.ensures.cause in
    sink-causes (faults c.args.shelf.now) (faults c.put_head.new.shelf) (g.O.Sink.faults c.args.out.now) (g.O.Sink.faults c.print_sets.new.out)
    c.print_sets.result (put ∙ begun) c.print_sets.ensures.cause
