use Rattle.std.proofs.Common.{◌≡◌, ℕ, [], ◌∷◌, ◌++◌, ◌∙◌, Ok, Err, drop, length, subst, arith}
use Rattle.std.proofs.lemmas.Result.{err_from_is_err_and}
use Rattle.log_portions.specs.Portions.{steps_text}
use Rattle.write_order.specs.Writes.{Leaves, on_shelf, on_sink, print_piece, put_piece}
use Rattle.write_order.proofs.Carried.{done-then, leaves-then}
use Rattle.list_writer.specs.Going.{report_writes}
use Rattle.list_writer.specs.Jobs.{asked_of}
use Rattle.list_writer.specs.Lines.{ending_line}
use Rattle.list_writer.specs.Texts.{waves}
use Rattle.list_writer.proofs.Pairs.{at-log, leaves-within}
use Rattle.list_writer.proofs.listing.Listing.close.Goals as goal

pub returns-in_err-put_steps-clause-left : goal.returns-in_err-put_steps-clause-left
returns-in_err-put_steps-clause-left g c =
    let p = err_from_is_err_and c.from_residual.result c.from_residual.ensures.1 in
    rw (p.1, p.2) (λ told_shelf told_sink runs are.
    let job = c.args.self.now.job in
    let log = (g.D.Search.state c.args.self.now.search).log in
    let o = on_shelf (g.S.Shelf.written c.args.shelf.now) (g.S.Shelf.written c.put_steps.new.shelf) (g.O.Sink.written c.args.out.now) in
    leaves-within (put_piece job.log.now (steps_text (drop c.args.self.now.steps log)) ∷ [])
    (report_writes (asked_of job) c.args.self.now.found.items c.args.verdict.now.ending
    ++ (waves (asked_of job) c.args.self.now.found.items runs ++ print_piece (ending_line c.args.verdict.now.ending
    (length c.args.self.now.found.items)) ∷ []))
    o c.in_err-put_steps.field-0.0
    (at-log job.log.now c.args.self.now.steps c.log.result.now log o (Err c.in_err-put_steps.field-0.0) c.log.ensures
    (c.in_err-put_steps.ensures.left told_shelf (g.O.Sink.written c.args.out.now))))

pub returns-in_err-put_report-clause-left : goal.returns-in_err-put_report-clause-left
returns-in_err-put_report-clause-left g c =
    let p = err_from_is_err_and c.from_residual-in_err-put_report.result c.from_residual-in_err-put_report.ensures.1 in
    rw (p.1, p.2) (λ told_shelf told_sink runs are.
    let job = c.args.self.now.job in
    let log = (g.D.Search.state c.args.self.now.search).log in
    let printed = g.O.Sink.written c.args.out.now in
    let o = on_shelf (g.S.Shelf.written c.args.shelf.now) (g.S.Shelf.written c.put_steps.new.shelf) printed in
    leaves-within (put_piece job.log.now (steps_text (drop c.args.self.now.steps log)) ∷ report_writes
    (asked_of job) c.args.self.now.found.items c.args.verdict.now.ending)
    (waves (asked_of job) c.args.self.now.found.items runs ++ print_piece (ending_line c.args.verdict.now.ending
    (length c.args.self.now.found.items)) ∷ [])
    (on_shelf (g.S.Shelf.written c.args.shelf.now) (g.S.Shelf.written c.put_report.new.shelf) printed) c.in_err-put_report.field-0.0
    (leaves-then {X = Unit {0}} (put_piece job.log.now (steps_text (drop c.args.self.now.steps log)) ∷ [])
    (report_writes (asked_of job) c.args.self.now.found.items c.args.verdict.now.ending)
    (g.S.Shelf.written c.args.shelf.now) (g.S.Shelf.written c.put_steps.new.shelf) (g.S.Shelf.written c.put_report.new.shelf)
    printed printed printed (Err c.in_err-put_report.field-0.0)
    (at-log job.log.now c.args.self.now.steps c.log.result.now log o (Ok c.in_ok-put_steps.field-0) c.log.ensures
    (c.in_ok-put_steps.ensures.left told_shelf printed))
    (c.in_err-put_report.ensures.left (c.in_ok-put_steps.ensures.tells ∙ told_shelf) printed)))

pub returns-in_err-put_waves-clause-left : goal.returns-in_err-put_waves-clause-left
returns-in_err-put_waves-clause-left g c =
    let p = err_from_is_err_and c.from_residual-in_err-put_waves.result c.from_residual-in_err-put_waves.ensures.1 in
    rw (p.1, p.2) (λ told_shelf told_sink runs are.
    let job = c.args.self.now.job in
    let log = (g.D.Search.state c.args.self.now.search).log in
    let printed = g.O.Sink.written c.args.out.now in
    let o = on_shelf (g.S.Shelf.written c.args.shelf.now) (g.S.Shelf.written c.put_steps.new.shelf) printed in
    let begun = put_piece job.log.now (steps_text (drop c.args.self.now.steps log)) ∷ report_writes
    (asked_of job) c.args.self.now.found.items c.args.verdict.now.ending in
    leaves-within (begun ++ waves (asked_of job) c.args.self.now.found.items runs)
    (print_piece (ending_line c.args.verdict.now.ending (length c.args.self.now.found.items)) ∷ [])
    (on_shelf (g.S.Shelf.written c.args.shelf.now) (g.S.Shelf.written c.put_waves.new.shelf) printed) c.in_err-put_waves.field-0.0
    (leaves-then {X = Unit {0}} begun (waves (asked_of job) c.args.self.now.found.items runs)
    (g.S.Shelf.written c.args.shelf.now) (g.S.Shelf.written c.put_report.new.shelf) (g.S.Shelf.written c.put_waves.new.shelf)
    printed printed printed (Err c.in_err-put_waves.field-0.0)
    (done-then (put_piece job.log.now (steps_text (drop c.args.self.now.steps log)) ∷ [])
    (report_writes (asked_of job) c.args.self.now.found.items c.args.verdict.now.ending)
    (g.S.Shelf.written c.args.shelf.now) (g.S.Shelf.written c.put_steps.new.shelf) (g.S.Shelf.written c.put_report.new.shelf)
    printed printed printed
    (at-log job.log.now c.args.self.now.steps c.log.result.now log o (Ok c.in_ok-put_steps.field-0) c.log.ensures
    (c.in_ok-put_steps.ensures.left told_shelf printed))
    (c.in_ok-put_report.ensures.left (c.in_ok-put_steps.ensures.tells ∙ told_shelf) printed))
    (c.in_err-put_waves.ensures.left (c.in_ok-put_report.ensures.tells ∙ c.in_ok-put_steps.ensures.tells ∙ told_shelf) runs printed are)))

pub returns-clause-left : goal.returns-clause-left
returns-clause-left g c = λ told_shelf told_sink runs are.
    let job = c.args.self.now.job in
    let log = (g.D.Search.state c.args.self.now.search).log in
    let printed = g.O.Sink.written c.args.out.now in
    let o = on_shelf (g.S.Shelf.written c.args.shelf.now) (g.S.Shelf.written c.put_steps.new.shelf) printed in
    let many : c.len.result ≡ length c.args.self.now.found.items = omega (arith, c.len.ensures, c.args.self.now.found.ok.0) in
    let begun = put_piece job.log.now (steps_text (drop c.args.self.now.steps log)) ∷ report_writes
    (asked_of job) c.args.self.now.found.items c.args.verdict.now.ending in
    leaves-then {X = Unit {0}} (begun ++ waves (asked_of job) c.args.self.now.found.items runs)
    (print_piece (ending_line c.args.verdict.now.ending (length c.args.self.now.found.items)) ∷ [])
    (g.S.Shelf.written c.args.shelf.now) (g.S.Shelf.written c.put_waves.new.shelf) (g.S.Shelf.written c.put_waves.new.shelf)
    printed printed (g.O.Sink.written c.print_ending.new.out) c.print_ending.result
    (done-then begun (waves (asked_of job) c.args.self.now.found.items runs)
    (g.S.Shelf.written c.args.shelf.now) (g.S.Shelf.written c.put_report.new.shelf) (g.S.Shelf.written c.put_waves.new.shelf)
    printed printed printed
    (done-then (put_piece job.log.now (steps_text (drop c.args.self.now.steps log)) ∷ [])
    (report_writes (asked_of job) c.args.self.now.found.items c.args.verdict.now.ending)
    (g.S.Shelf.written c.args.shelf.now) (g.S.Shelf.written c.put_steps.new.shelf) (g.S.Shelf.written c.put_report.new.shelf)
    printed printed printed
    (at-log job.log.now c.args.self.now.steps c.log.result.now log o (Ok c.in_ok-put_steps.field-0) c.log.ensures
    (c.in_ok-put_steps.ensures.left told_shelf printed))
    (c.in_ok-put_report.ensures.left (c.in_ok-put_steps.ensures.tells ∙ told_shelf) printed))
    (c.in_ok-put_waves.ensures.left (c.in_ok-put_report.ensures.tells ∙ c.in_ok-put_steps.ensures.tells ∙ told_shelf) runs printed are))
    (subst (λ (n : ℕ). Leaves (print_piece (ending_line c.args.verdict.now.ending n) ∷ [])
    (on_sink (g.S.Shelf.written c.put_waves.new.shelf) printed (g.O.Sink.written c.print_ending.new.out)) c.print_ending.result)
    many (c.print_ending.ensures.left told_sink (g.S.Shelf.written c.put_waves.new.shelf)))
