use Rattle.std.proofs.Common.{[], ◌∷◌, Ok, Err, drop}
use Rattle.std.proofs.lemmas.Result.{err_from_is_err_and}
use Rattle.log_portions.specs.Portions.{steps_text}
use Rattle.write_order.specs.Writes.{on_shelf, print_piece, put_piece}
use Rattle.write_order.proofs.Carried.{done-then, leaves-then}
use Rattle.list_writer.specs.Jobs.{asked_of}
use Rattle.list_writer.specs.Texts.{lines_of}
use Rattle.list_writer.proofs.Pairs.{at-log, leaves-within}
use Rattle.list_writer.proofs.listing.Listing.take.Goals as goal

pub returns-in_err-put_steps-clause-left : goal.returns-in_err-put_steps-clause-left
returns-in_err-put_steps-clause-left g c =
    let p = err_from_is_err_and c.from_residual.result c.from_residual.ensures.1 in
    rw (p.1, p.2) (λ told_shelf told_sink.
    let log = (g.D.Search.state c.args.self.now.search).log in
    let o = on_shelf (g.S.Shelf.written c.args.shelf.now) (g.S.Shelf.written c.put_steps.new.shelf) (g.O.Sink.written c.args.out.now) in
    leaves-within (put_piece c.args.self.now.job.log.now (steps_text (drop c.args.self.now.steps log)) ∷ [])
    (print_piece (lines_of (asked_of c.args.self.now.job) c.args.set) ∷ []) o c.in_err-put_steps.field-0.0
    (at-log c.args.self.now.job.log.now c.args.self.now.steps c.log-log.result.now log o
    (Err c.in_err-put_steps.field-0.0) c.log-log.ensures
    (c.in_err-put_steps.ensures.left told_shelf (g.O.Sink.written c.args.out.now))))

pub returns-in_err-print_set-clause-left : goal.returns-in_err-print_set-clause-left
returns-in_err-print_set-clause-left g c =
    let p = err_from_is_err_and c.from_residual-in_err-print_set.result c.from_residual-in_err-print_set.ensures.1 in
    rw (p.1, p.2) (λ told_shelf told_sink.
    let log = (g.D.Search.state c.args.self.now.search).log in
    let o = on_shelf (g.S.Shelf.written c.args.shelf.now) (g.S.Shelf.written c.put_steps.new.shelf) (g.O.Sink.written c.args.out.now) in
    leaves-then {X = Unit {0}} (put_piece c.args.self.now.job.log.now (steps_text (drop c.args.self.now.steps log)) ∷ [])
    (print_piece (lines_of (asked_of c.args.self.now.job) c.args.set) ∷ [])
    (g.S.Shelf.written c.args.shelf.now) (g.S.Shelf.written c.put_steps.new.shelf) (g.S.Shelf.written c.put_steps.new.shelf)
    (g.O.Sink.written c.args.out.now) (g.O.Sink.written c.args.out.now) (g.O.Sink.written c.print_set.new.out)
    (Err c.in_err-print_set.field-0.0)
    (at-log c.args.self.now.job.log.now c.args.self.now.steps c.log-log.result.now log o (Ok c.in_ok-put_steps.field-0) c.log-log.ensures
    (c.in_ok-put_steps.ensures.left told_shelf (g.O.Sink.written c.args.out.now)))
    (c.in_err-print_set.ensures.left told_sink (g.S.Shelf.written c.put_steps.new.shelf)))

pub returns-clause-left : goal.returns-clause-left
returns-clause-left g c = λ told_shelf told_sink.
    let log = (g.D.Search.state c.args.self.now.search).log in
    let o = on_shelf (g.S.Shelf.written c.args.shelf.now) (g.S.Shelf.written c.put_steps.new.shelf) (g.O.Sink.written c.args.out.now) in
    done-then (put_piece c.args.self.now.job.log.now (steps_text (drop c.args.self.now.steps log)) ∷ [])
    (print_piece (lines_of (asked_of c.args.self.now.job) c.args.set) ∷ [])
    (g.S.Shelf.written c.args.shelf.now) (g.S.Shelf.written c.put_steps.new.shelf) (g.S.Shelf.written c.put_steps.new.shelf)
    (g.O.Sink.written c.args.out.now) (g.O.Sink.written c.args.out.now) (g.O.Sink.written c.print_set.new.out)
    (at-log c.args.self.now.job.log.now c.args.self.now.steps c.log-log.result.now log o (Ok c.in_ok-put_steps.field-0) c.log-log.ensures
    (c.in_ok-put_steps.ensures.left told_shelf (g.O.Sink.written c.args.out.now)))
    (c.in_ok-print_set.ensures.left told_sink (g.S.Shelf.written c.put_steps.new.shelf))
