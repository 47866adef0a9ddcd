use Rattle.std.proofs.Common.{ℕ, List, Option, None, sym, ◌∙◌, subst}
use Rattle.std.proofs.lemmas.Result.{err_from_is_err_and}
use Rattle.command_contract.specs.Contract.{counts_of}
use Rattle.io_ports.specs.Faults.{FaultCounts}
use Rattle.list_writer.specs.Due.{first_writes}
use Rattle.list_writer.specs.Going.{OpenLeaves, StopCauses, outputs}
use Rattle.list_writer.specs.Jobs.{asked_with, session_of}
use Rattle.list_writer.proofs.Opening.{nothing-done, open-ask}
use Rattle.list_writer.proofs.Runs.{stopped-same}
use Rattle.list_writer.proofs.listing.Listing.open.Goals as goal

pub returns-in_err-stopped-clause-left : goal.returns-in_err-stopped-clause-left
returns-in_err-stopped-clause-left g c =
    let p = err_from_is_err_and c.from_residual.result c.from_residual.ensures.1 in
    rw (p.1, p.2) (λ told_shelf told_sink.
    let asked = asked_with c.args.self.now.job (session_of c.args.self.now.found.items (g.D.Search.state c.args.self.now.search)) in
    let printed = g.O.Sink.written c.args.out.now in
    let before = g.S.Shelf.written c.args.shelf.now in
    let behind = g.S.Shelf.written c.ask_names.new.shelf in
    open-ask asked (outputs before behind printed printed) c.ask_names.result c.in_err-stopped.field-0.0
    (sym c.stopped.ensures ∙ c.in_err-stopped.was) (nothing-done before behind printed c.ask_names.ensures.written))

pub returns-clause-left : goal.returns-clause-left
returns-clause-left g c = λ told_shelf told_sink.
    let asked = asked_with c.args.self.now.job (session_of c.args.self.now.found.items (g.D.Search.state c.args.self.now.search)) in
    subst (λ (w : List ℕ → Option (List ℕ)). OpenLeaves (first_writes asked)
    (outputs w (g.S.Shelf.written c.begin.new.shelf) (g.O.Sink.written c.args.out.now) (g.O.Sink.written c.begin.new.out)) c.begin.result)
    c.ask_names.ensures.written (c.begin.ensures.left (c.ask_names.ensures.tells ∙ told_shelf) told_sink)

pub returns-clause-causes : goal.returns-clause-causes
returns-clause-causes g c =
    let faults = g.S.Shelf.faults in
    let same = stopped-same (faults c.args.shelf.now) (faults c.ask_names.new.shelf) c.ask_names.result None c.in_ok-stopped.field-0
    (sym c.stopped.ensures ∙ c.in_ok-stopped.was) c.ask_names.ensures.cause in
    subst (λ (counts : FaultCounts). StopCauses (counts_of counts (faults c.begin.new.shelf) (g.O.Sink.faults c.args.out.now)
    (g.O.Sink.faults c.begin.new.out)) c.begin.result) same c.begin.ensures.causes
