use Rattle.std.proofs.Common.{◌≡◌, ℕ, Some, Ok, Err, true, ◌&&◌, ◌∙◌, refl, sym, ap, ap₂, subst, length, drop, arith}
use Rattle.std.specs.Prelude.{OnOk}
use Rattle.std.proofs.lemmas.Result.{err_from_is_err_and}
use Rattle.write_order.specs.Writes.{AreDone, Leaves}
use Rattle.command_contract.specs.Contract.{counts_of}
use Rattle.report_doc.specs.declared.types.Ending.{Ending}
use Rattle.report_doc.specs.Lines.{AreWithin}
use Rattle.report_doc.specs.Shape.{IsReport}
use Rattle.debug_core.specs.Problems.{Problem}
use Rattle.set_waves.specs.Waved.{AreRuns, CanBeWaved, HaveValues, Runs}
use Rattle.list_writer.specs.declared.job.Job.{Job}
use Rattle.list_writer.specs.declared.outcome.Outcome.TheVariants as outcome
use Rattle.list_writer.specs.CheckpointNames.{beside}
use Rattle.list_writer.specs.Due.{opening}
use Rattle.list_writer.specs.Going.{StopCauses, StopsShort, closing_writes, outputs}
use Rattle.list_writer.specs.Jobs.{asked_of, asked_with, session_of}
use Rattle.list_writer.specs.Reporting.{CanBeReported}
use Rattle.list_writer.specs.Saving.{outcome_of}
use Rattle.list_writer.specs.Stops.{stopped}
use Rattle.list_writer.specs.Texts.{report_for, waved_for}
use Rattle.list_writer.proofs.Around.{close-beside, close-leaves, none-stand, open-beside, open-leaves}
use Rattle.list_writer.proofs.Ended.{can-be-checked, can-be-reported, can-be-waved, have-values, is-ended}
use Rattle.list_writer.proofs.Opening.{found-members, open-stopped}
use Rattle.list_writer.proofs.Runs.{check-short, closing-done, closing-stopped, search-done, search-stopped}
use Rattle.list_writer.proofs.Runs.{stopped-causes, stopped-none}
use Rattle.list_writer.proofs.Saved.{stand-between, stand-weaker}
use Rattle.list_writer.proofs.listing.Listing.run.Goals as goal

pub open-requires-clause-members : goal.open-requires-clause-members
open-requires-clause-members g c =
    found-members (g.D.Search.state c.args.self.now.search) c.args.self.now.found.items c.requires.holds c.requires.goes_with.listed
    (asked_of c.args.self.now.job).problem c.requires.goes_with.problem

pub open-requires-clause-within : goal.open-requires-clause-within
open-requires-clause-within g c =
    subst (λ (p : Problem). AreWithin p.design.places.items p.groups) c.requires.goes_with.problem c.requires.holds.problem.groups

pub returns-in_err-open-clause-left : goal.returns-in_err-open-clause-left
returns-in_err-open-clause-left g c =
    let p = err_from_is_err_and c.from_residual.result c.from_residual.ensures.1 in
    rw (p.1, p.2) (λ told_shelf told_sink.
    let s = g.D.Search.state c.args.self.now.search in
    let asked = asked_with c.args.self.now.job (session_of c.args.self.now.found.items s) in
    open-stopped asked s c.requires.holds c.requires.goes_with c.requires.job.session
    (outputs (beside asked.checkpoints (g.S.Shelf.written c.args.shelf.now)) (beside asked.checkpoints (g.S.Shelf.written c.open.new.shelf))
    (g.O.Sink.written c.args.out.now) (g.O.Sink.written c.open.new.out))
    c.in_err-open.field-0.0
    (open-beside asked c.requires.job.can.log_beside (g.S.Shelf.written c.args.shelf.now) (g.S.Shelf.written c.open.new.shelf)
    (g.O.Sink.written c.args.out.now) (g.O.Sink.written c.open.new.out) (Err c.in_err-open.field-0.0) (c.in_err-open.ensures.left told_shelf told_sink)))

pub returns-in_err-open-clause-saved : goal.returns-in_err-open-clause-saved
returns-in_err-open-clause-saved g c =
    let p = err_from_is_err_and c.from_residual.result c.from_residual.ensures.1 in
    rw (p.1, p.2) (λ told_shelf told_sink.
    let asked = asked_with c.args.self.now.job (session_of c.args.self.now.found.items (g.D.Search.state c.args.self.now.search)) in
    none-stand asked c.requires.job.can.log_beside (g.S.Shelf.written c.args.shelf.now) (g.S.Shelf.written c.open.new.shelf)
    (g.O.Sink.written c.args.out.now) (g.O.Sink.written c.open.new.out) (Err c.in_err-open.field-0.0) (c.in_err-open.ensures.left told_shelf told_sink)
    (outcome_of (Err c.in_err-open.field-0.0)))

pub returns-in_err-ending-clause-left : goal.returns-in_err-ending-clause-left
returns-in_err-ending-clause-left g c =
    let p = err_from_is_err_and c.from_residual-in_err-ending.result c.from_residual-in_err-ending.ensures.1 in
    rw (p.1, p.2) (λ told_shelf told_sink.
    let state = g.D.Search.state in
    let asked = asked_with c.args.self.now.job (session_of c.args.self.now.found.items (state c.args.self.now.search)) in
    let written = g.S.Shelf.written in
    let b = beside asked.checkpoints in
    let printed = g.O.Sink.written in
    let told = g.S.Shelf.tells c.open.new.shelf && g.O.Sink.tells c.open.new.out in
    let tells : told ≡ true =
    ap₂ (λ a b. a && b) (c.in_ok-open.ensures.tells_shelf ∙ told_shelf) (c.in_ok-open.ensures.tells_sink ∙ told_sink) in
    search-stopped asked (state c.search_on.new.self.search) c.search_on.new.self.found.items c.search_on.new.self.steps
    (b (written c.args.shelf.now)) (b (written c.open.new.shelf)) (b (written c.search_on.new.shelf))
    (printed c.args.out.now) (printed c.open.new.out) (printed c.search_on.new.out)
    told tells (open-beside asked c.requires.job.can.log_beside (written c.args.shelf.now) (written c.open.new.shelf) (printed c.args.out.now)
    (printed c.open.new.out) (Ok c.in_ok-open.field-0) (c.in_ok-open.ensures.left told_shelf told_sink)) c.in_err-ending.field-0.0 c.in_err-ending.ensures.left)

pub check-requires-clause-can : goal.check-requires-clause-can
check-requires-clause-can g c κs within =
    let state = g.D.Search.state in
    let asked = asked_with c.args.self.now.job (session_of c.args.self.now.found.items (state c.args.self.now.search)) in
    let ends = c.in_ok-ending.ensures.left.answer in
    can-be-checked asked (state c.search_on.new.self.search) c.search_on.new.self.found.items c.search_on.new.self.steps c.in_ok-ending.ending
    ends.portions ends.ended c.requires.job.few

pub returns-in_default-clause-left : goal.returns-in_default-clause-left
returns-in_default-clause-left g c = λ told_shelf told_sink.
    let state = g.D.Search.state in
    let job = c.args.self.now.job in
    let asked = asked_with job (session_of c.args.self.now.found.items (state c.args.self.now.search)) in
    let s = state c.search_on.new.self.search in
    let found = c.search_on.new.self.found.items in
    let steps = c.search_on.new.self.steps in
    let written = g.S.Shelf.written in
    let b = beside asked.checkpoints in
    let printed = g.O.Sink.written in
    let told = g.S.Shelf.tells c.open.new.shelf && g.O.Sink.tells c.open.new.out in
    let shelf-tells = c.in_ok-open.ensures.tells_shelf ∙ told_shelf in
    let sink-tells = c.in_ok-open.ensures.tells_sink ∙ told_sink in
    let tells : told ≡ true = ap₂ (λ a b. a && b) shelf-tells sink-tells in
    let searched = c.in_ok-ending.ensures.left in
    let ends = searched.answer in
    let ending = c.in_ok-ending.ending in
    let many : c.len.result ≡ length found = omega (arith, c.len.ensures, c.search_on.new.self.found.ok.0) in
    let opening-done : AreDone (opening asked ends.portions)
    (outputs (b (written c.args.shelf.now)) (b (written c.search_on.new.shelf)) (printed c.args.out.now) (printed c.search_on.new.out)) =
    search-done asked s found steps searched.holds searched.problem (b (written c.args.shelf.now)) (b (written c.open.new.shelf))
    (b (written c.search_on.new.shelf)) (printed c.args.out.now) (printed c.open.new.out) (printed c.search_on.new.out)
    told tells (open-beside asked c.requires.job.can.log_beside (written c.args.shelf.now) (written c.open.new.shelf) (printed c.args.out.now)
    (printed c.open.new.out) (Ok c.in_ok-open.field-0) (c.in_ok-open.ensures.left told_shelf told_sink)) ending ends in
    let o = outputs (b (written c.args.shelf.now)) (b (written c.search_on.new.shelf)) (printed c.args.out.now) (printed c.search_on.new.out) in
    subst (λ (n : ℕ). StopsShort asked (Some n) o) (sym many)
    (check-short asked s found steps ending ends.portions ends.ended o opening-done)

pub close-requires-clause-report : goal.close-requires-clause-report
close-requires-clause-report g c =
    let state = g.D.Search.state in
    let asked = asked_with c.args.self.now.job (session_of c.args.self.now.found.items (state c.args.self.now.search)) in
    let found = c.search_on.new.self.found.items in
    let ends = c.in_ok-ending.ensures.left.answer in
    let can = can-be-reported asked (state c.search_on.new.self.search) found c.search_on.new.self.steps c.in_ok-ending.ending ends.portions
    ends.ended c.requires.job.kinds in
    subst (λ (j : Job). CanBeReported (asked_of j) found) (sym c.in_ok-ending.ensures.job)
    (record { kinds = can.kinds; size = can.size; sets = can.sets; within = can.within })

pub close-requires-clause-waved : goal.close-requires-clause-waved
close-requires-clause-waved g c =
    let state = g.D.Search.state in
    let asked = asked_with c.args.self.now.job (session_of c.args.self.now.found.items (state c.args.self.now.search)) in
    let ends = c.in_ok-ending.ensures.left.answer in
    subst (λ (j : Job). CanBeWaved (waved_for (asked_of j)) (asked_of j).problem.order) (sym c.in_ok-ending.ensures.job)
    (can-be-waved asked (state c.search_on.new.self.search) c.search_on.new.self.found.items c.search_on.new.self.steps c.in_ok-ending.ending
    ends.portions ends.ended)

pub close-requires-clause-values : goal.close-requires-clause-values
close-requires-clause-values g c =
    let state = g.D.Search.state in
    let asked = asked_with c.args.self.now.job (session_of c.args.self.now.found.items (state c.args.self.now.search)) in
    let found = c.search_on.new.self.found.items in
    let ends = c.in_ok-ending.ensures.left.answer in
    subst (λ (j : Job). HaveValues (waved_for (asked_of j)) found) (sym c.in_ok-ending.ensures.job)
    (have-values asked (state c.search_on.new.self.search) found c.search_on.new.self.steps c.in_ok-ending.ending ends.portions ends.ended)

pub returns-in_err-stopped-clause-left : goal.returns-in_err-stopped-clause-left
returns-in_err-stopped-clause-left g c =
    let p = err_from_is_err_and c.from_residual-in_err-stopped.result c.from_residual-in_err-stopped.ensures.1 in
    rw (p.1, p.2) (λ told_shelf told_sink.
    let state = g.D.Search.state in
    let job = c.args.self.now.job in
    let asked = asked_with job (session_of c.args.self.now.found.items (state c.args.self.now.search)) in
    let s = state c.search_on.new.self.search in
    let found = c.search_on.new.self.found.items in
    let steps = c.search_on.new.self.steps in
    let written = g.S.Shelf.written in
    let b = beside asked.checkpoints in
    let printed = g.O.Sink.written in
    let told = g.S.Shelf.tells c.open.new.shelf && g.O.Sink.tells c.open.new.out in
    let shelf-tells = c.in_ok-open.ensures.tells_shelf ∙ told_shelf in
    let sink-tells = c.in_ok-open.ensures.tells_sink ∙ told_sink in
    let tells : told ≡ true = ap₂ (λ a b. a && b) shelf-tells sink-tells in
    let searched = c.in_ok-ending.ensures.left in
    let ends = searched.answer in
    let ending = c.in_ok-ending.ending in
    let many : c.len.result ≡ length found = omega (arith, c.len.ensures, c.search_on.new.self.found.ok.0) in
    let opening-done : AreDone (opening asked ends.portions)
    (outputs (b (written c.args.shelf.now)) (b (written c.search_on.new.shelf)) (printed c.args.out.now) (printed c.search_on.new.out)) =
    search-done asked s found steps searched.holds searched.problem (b (written c.args.shelf.now)) (b (written c.open.new.shelf))
    (b (written c.search_on.new.shelf)) (printed c.args.out.now) (printed c.open.new.out) (printed c.search_on.new.out)
    told tells (open-beside asked c.requires.job.can.log_beside (written c.args.shelf.now) (written c.open.new.shelf) (printed c.args.out.now)
    (printed c.open.new.out) (Ok c.in_ok-open.field-0) (c.in_ok-open.ensures.left told_shelf told_sink)) ending ends in
    let is = is-ended asked s found steps ending ends.portions ends.ended c.requires.job.few c.in_ok-open.ensures.digest
    c.in_ok-ending.ensures.shown in
    let o = outputs (written c.search_on.new.shelf) (written c.close.new.shelf) (printed c.search_on.new.out) (printed c.close.new.out) in
    let left : (runs : Runs) → AreRuns (waved_for asked) found runs
    → Leaves (closing_writes asked found (drop steps s.log) ending runs) o c.close.result = λ runs are.
    subst (λ (e : Ending). Leaves (closing_writes asked found (drop steps s.log) e runs) o c.close.result) c.in-Ok.ensures.ending
    (subst (λ (j : Job). AreRuns (waved_for (asked_of j)) found runs
    → Leaves (closing_writes (asked_of j) found (drop steps s.log) c.in-Ok.verdict.ending runs) o c.close.result)
    c.in_ok-ending.ensures.job
    (c.close.ensures.left (c.in_ok-ending.ensures.tells_shelf ∙ shelf-tells) (c.in_ok-ending.ensures.tells_sink ∙ sink-tells) runs) are) in
    closing-stopped asked s found steps ending ends.portions ends.ended is
    (b (written c.args.shelf.now)) (b (written c.search_on.new.shelf)) (b (written c.close.new.shelf))
    (printed c.args.out.now) (printed c.search_on.new.out) (printed c.close.new.out) opening-done c.close.result
    (close-beside asked c.requires.job.can.log_beside c.requires.job.can.report_beside s found steps ending ends.portions ends.ended
    (written c.search_on.new.shelf) (written c.close.new.shelf) (printed c.search_on.new.out) (printed c.close.new.out) c.close.result left)
    c.in_err-stopped.field-0.0
    (ap (λ (n : ℕ). stopped c.close.result (Some n)) (sym many) ∙ sym c.stopped.ensures ∙ c.in_err-stopped.was))

pub returns-clause-left : goal.returns-clause-left
returns-clause-left g c = λ told_shelf told_sink.
    let state = g.D.Search.state in
    let job = c.args.self.now.job in
    let asked = asked_with job (session_of c.args.self.now.found.items (state c.args.self.now.search)) in
    let s = state c.search_on.new.self.search in
    let found = c.search_on.new.self.found.items in
    let steps = c.search_on.new.self.steps in
    let written = g.S.Shelf.written in
    let b = beside asked.checkpoints in
    let printed = g.O.Sink.written in
    let told = g.S.Shelf.tells c.open.new.shelf && g.O.Sink.tells c.open.new.out in
    let shelf-tells = c.in_ok-open.ensures.tells_shelf ∙ told_shelf in
    let sink-tells = c.in_ok-open.ensures.tells_sink ∙ told_sink in
    let tells : told ≡ true = ap₂ (λ a b. a && b) shelf-tells sink-tells in
    let searched = c.in_ok-ending.ensures.left in
    let ends = searched.answer in
    let ending = c.in_ok-ending.ending in
    let many : c.len.result ≡ length found = omega (arith, c.len.ensures, c.search_on.new.self.found.ok.0) in
    let opening-done : AreDone (opening asked ends.portions)
    (outputs (b (written c.args.shelf.now)) (b (written c.search_on.new.shelf)) (printed c.args.out.now) (printed c.search_on.new.out)) =
    search-done asked s found steps searched.holds searched.problem (b (written c.args.shelf.now)) (b (written c.open.new.shelf))
    (b (written c.search_on.new.shelf)) (printed c.args.out.now) (printed c.open.new.out) (printed c.search_on.new.out)
    told tells (open-beside asked c.requires.job.can.log_beside (written c.args.shelf.now) (written c.open.new.shelf) (printed c.args.out.now)
    (printed c.open.new.out) (Ok c.in_ok-open.field-0) (c.in_ok-open.ensures.left told_shelf told_sink)) ending ends in
    let is = is-ended asked s found steps ending ends.portions ends.ended c.requires.job.few c.in_ok-open.ensures.digest
    c.in_ok-ending.ensures.shown in
    let o = outputs (written c.search_on.new.shelf) (written c.close.new.shelf) (printed c.search_on.new.out) (printed c.close.new.out) in
    let left : (runs : Runs) → AreRuns (waved_for asked) found runs
    → Leaves (closing_writes asked found (drop steps s.log) ending runs) o c.close.result = λ runs are.
    subst (λ (e : Ending). Leaves (closing_writes asked found (drop steps s.log) e runs) o c.close.result) c.in-Ok.ensures.ending
    (subst (λ (j : Job). AreRuns (waved_for (asked_of j)) found runs
    → Leaves (closing_writes (asked_of j) found (drop steps s.log) c.in-Ok.verdict.ending runs) o c.close.result)
    c.in_ok-ending.ensures.job
    (c.close.ensures.left (c.in_ok-ending.ensures.tells_shelf ∙ shelf-tells) (c.in_ok-ending.ensures.tells_sink ∙ sink-tells) runs) are) in
    let report : OnOk c.close.result (IsReport (report_for asked found ending)) =
    subst (λ (j : Job). OnOk c.close.result (IsReport (report_for (asked_of j) found ending))) c.in_ok-ending.ensures.job
    (subst (λ (e : Ending). OnOk c.close.result (IsReport (report_for (asked_of c.search_on.new.self.job) found e))) c.in-Ok.ensures.ending
    c.close.ensures.report) in
    closing-done asked s found steps ending ends.portions ends.ended is
    (b (written c.args.shelf.now)) (b (written c.search_on.new.shelf)) (b (written c.close.new.shelf))
    (printed c.args.out.now) (printed c.search_on.new.out) (printed c.close.new.out) opening-done c.close.result
    (close-beside asked c.requires.job.can.log_beside c.requires.job.can.report_beside s found steps ending ends.portions ends.ended
    (written c.search_on.new.shelf) (written c.close.new.shelf) (printed c.search_on.new.out) (printed c.close.new.out) c.close.result left) report
    c.in_ok-stopped.field-0
    (ap (λ (n : ℕ). stopped c.close.result (Some n)) (sym many) ∙ sym c.stopped.ensures ∙ c.in_ok-stopped.was)

pub returns-in_default-clause-causes : goal.returns-in_default-clause-causes
returns-in_default-clause-causes g c =
    let opened = c.in_ok-open.ensures.causes in
    let searched = c.in_ok-ending.ensures.causes in
    (searched.0 ∙ opened.0, searched.1 ∙ opened.1)

pub returns-in_err-stopped-clause-causes : goal.returns-in_err-stopped-clause-causes
returns-in_err-stopped-clause-causes g c =
    let p = err_from_is_err_and c.from_residual-in_err-stopped.result c.from_residual-in_err-stopped.ensures.1 in
    let faults = g.S.Shelf.faults in
    let sink = g.O.Sink.faults in
    let opened = c.in_ok-open.ensures.causes in
    let searched = c.in_ok-ending.ensures.causes in
    rw (p.1, p.2)
    (subst (λ x. StopCauses {X = Ending} (counts_of x (faults c.close.new.shelf) (sink c.args.out.now) (sink c.close.new.out)) (Err c.in_err-stopped.field-0.0))
    (searched.0 ∙ opened.0)
    (subst (λ x. StopCauses {X = Ending} (counts_of (faults c.search_on.new.shelf) (faults c.close.new.shelf) x (sink c.close.new.out)) (Err c.in_err-stopped.field-0.0))
    (searched.1 ∙ opened.1)
    (stopped-causes (counts_of (faults c.search_on.new.shelf) (faults c.close.new.shelf) (sink c.search_on.new.out) (sink c.close.new.out))
    c.close.result _ c.in_err-stopped.field-0.0 (sym c.stopped.ensures ∙ c.in_err-stopped.was) c.close.ensures.causes)))

pub returns-clause-causes : goal.returns-clause-causes
returns-clause-causes g c =
    let faults = g.S.Shelf.faults in
    let sink = g.O.Sink.faults in
    let opened = c.in_ok-open.ensures.causes in
    let searched = c.in_ok-ending.ensures.causes in
    let closed = stopped-none (counts_of (faults c.search_on.new.shelf) (faults c.close.new.shelf) (sink c.search_on.new.out) (sink c.close.new.out))
    c.close.result _ c.in_ok-stopped.field-0 (sym c.stopped.ensures ∙ c.in_ok-stopped.was) c.close.ensures.causes in
    (closed.0 ∙ (searched.0 ∙ opened.0), closed.1 ∙ (searched.1 ∙ opened.1))

-- ---- the checkpoints
pub returns-in_err-ending-clause-saved : goal.returns-in_err-ending-clause-saved
returns-in_err-ending-clause-saved g c =
    let p = err_from_is_err_and c.from_residual-in_err-ending.result c.from_residual-in_err-ending.ensures.1 in
    rw (p.1, p.2) (λ told_shelf told_sink.
    let state = g.D.Search.state in
    let job = c.args.self.now.job in
    let asked = asked_with job (session_of c.args.self.now.found.items (state c.args.self.now.search)) in
    let written = g.S.Shelf.written in
    let printed = g.O.Sink.written in
    let opened = open-leaves asked c.requires.job.can.log_beside (written c.args.shelf.now) (written c.open.new.shelf) (printed c.args.out.now)
    (printed c.open.new.out) (Ok c.in_ok-open.field-0) (c.in_ok-open.ensures.left told_shelf told_sink) in
    let shelf-tells = c.in_ok-open.ensures.tells_shelf ∙ told_shelf in
    let sink-tells = c.in_ok-open.ensures.tells_sink ∙ told_sink in
    stand-between asked.checkpoints asked (written c.args.shelf.now) (written c.open.new.shelf) (written c.search_on.new.shelf)
    (written c.search_on.new.shelf) (outcome_of (Err c.in_err-ending.field-0.0)) opened (λ name there. refl)
    (c.in_err-ending.ensures.saved shelf-tells sink-tells))

pub returns-in_default-clause-saved : goal.returns-in_default-clause-saved
returns-in_default-clause-saved g c = λ told_shelf told_sink.
    let state = g.D.Search.state in
    let job = c.args.self.now.job in
    let asked = asked_with job (session_of c.args.self.now.found.items (state c.args.self.now.search)) in
    let written = g.S.Shelf.written in
    let printed = g.O.Sink.written in
    let opened = open-leaves asked c.requires.job.can.log_beside (written c.args.shelf.now) (written c.open.new.shelf) (printed c.args.out.now)
    (printed c.open.new.out) (Ok c.in_ok-open.field-0) (c.in_ok-open.ensures.left told_shelf told_sink) in
    let shelf-tells = c.in_ok-open.ensures.tells_shelf ∙ told_shelf in
    let sink-tells = c.in_ok-open.ensures.tells_sink ∙ told_sink in
    stand-weaker asked.checkpoints asked (written c.args.shelf.now) (written c.search_on.new.shelf) c.in_ok-ending.ending outcome.Memory
    (stand-between asked.checkpoints asked (written c.args.shelf.now) (written c.open.new.shelf) (written c.search_on.new.shelf)
    (written c.search_on.new.shelf) (outcome.Ended c.in_ok-ending.ending) opened (λ name there. refl)
    (c.in_ok-ending.ensures.saved shelf-tells sink-tells))

pub returns-in_err-stopped-clause-saved : goal.returns-in_err-stopped-clause-saved
returns-in_err-stopped-clause-saved g c =
    let p = err_from_is_err_and c.from_residual-in_err-stopped.result c.from_residual-in_err-stopped.ensures.1 in
    rw (p.1, p.2) (λ told_shelf told_sink.
    let state = g.D.Search.state in
    let job = c.args.self.now.job in
    let asked = asked_with job (session_of c.args.self.now.found.items (state c.args.self.now.search)) in
    let written = g.S.Shelf.written in
    let printed = g.O.Sink.written in
    let opened = open-leaves asked c.requires.job.can.log_beside (written c.args.shelf.now) (written c.open.new.shelf) (printed c.args.out.now)
    (printed c.open.new.out) (Ok c.in_ok-open.field-0) (c.in_ok-open.ensures.left told_shelf told_sink) in
    let shelf-tells = c.in_ok-open.ensures.tells_shelf ∙ told_shelf in
    let sink-tells = c.in_ok-open.ensures.tells_sink ∙ told_sink in
    let s = state c.search_on.new.self.search in
    let found = c.search_on.new.self.found.items in
    let steps = c.search_on.new.self.steps in
    let ending = c.in_ok-ending.ending in
    let ends = c.in_ok-ending.ensures.left.answer in
    let o = outputs (written c.search_on.new.shelf) (written c.close.new.shelf) (printed c.search_on.new.out) (printed c.close.new.out) in
    let left : (runs : Runs) → AreRuns (waved_for asked) found runs
    → Leaves (closing_writes asked found (drop steps s.log) ending runs) o c.close.result = λ runs are.
    subst (λ (e : Ending). Leaves (closing_writes asked found (drop steps s.log) e runs) o c.close.result) c.in-Ok.ensures.ending
    (subst (λ (j : Job). AreRuns (waved_for (asked_of j)) found runs
    → Leaves (closing_writes (asked_of j) found (drop steps s.log) c.in-Ok.verdict.ending runs) o c.close.result)
    c.in_ok-ending.ensures.job
    (c.close.ensures.left (c.in_ok-ending.ensures.tells_shelf ∙ shelf-tells) (c.in_ok-ending.ensures.tells_sink ∙ sink-tells) runs) are) in
    let closed = close-leaves asked c.requires.job.can.log_beside c.requires.job.can.report_beside s found steps ending ends.portions ends.ended
    (written c.search_on.new.shelf) (written c.close.new.shelf) (printed c.search_on.new.out) (printed c.close.new.out) c.close.result left in
    stand-weaker asked.checkpoints asked (written c.args.shelf.now) (written c.close.new.shelf) ending (outcome_of (Err c.in_err-stopped.field-0.0))
    (stand-between asked.checkpoints asked (written c.args.shelf.now) (written c.open.new.shelf) (written c.search_on.new.shelf)
    (written c.close.new.shelf) (outcome.Ended ending) opened closed (c.in_ok-ending.ensures.saved shelf-tells sink-tells)))

pub returns-clause-saved : goal.returns-clause-saved
returns-clause-saved g c = λ told_shelf told_sink.
    let state = g.D.Search.state in
    let job = c.args.self.now.job in
    let asked = asked_with job (session_of c.args.self.now.found.items (state c.args.self.now.search)) in
    let written = g.S.Shelf.written in
    let printed = g.O.Sink.written in
    let opened = open-leaves asked c.requires.job.can.log_beside (written c.args.shelf.now) (written c.open.new.shelf) (printed c.args.out.now)
    (printed c.open.new.out) (Ok c.in_ok-open.field-0) (c.in_ok-open.ensures.left told_shelf told_sink) in
    let shelf-tells = c.in_ok-open.ensures.tells_shelf ∙ told_shelf in
    let sink-tells = c.in_ok-open.ensures.tells_sink ∙ told_sink in
    let s = state c.search_on.new.self.search in
    let found = c.search_on.new.self.found.items in
    let steps = c.search_on.new.self.steps in
    let ending = c.in_ok-ending.ending in
    let ends = c.in_ok-ending.ensures.left.answer in
    let o = outputs (written c.search_on.new.shelf) (written c.close.new.shelf) (printed c.search_on.new.out) (printed c.close.new.out) in
    let left : (runs : Runs) → AreRuns (waved_for asked) found runs
    → Leaves (closing_writes asked found (drop steps s.log) ending runs) o c.close.result = λ runs are.
    subst (λ (e : Ending). Leaves (closing_writes asked found (drop steps s.log) e runs) o c.close.result) c.in-Ok.ensures.ending
    (subst (λ (j : Job). AreRuns (waved_for (asked_of j)) found runs
    → Leaves (closing_writes (asked_of j) found (drop steps s.log) c.in-Ok.verdict.ending runs) o c.close.result)
    c.in_ok-ending.ensures.job
    (c.close.ensures.left (c.in_ok-ending.ensures.tells_shelf ∙ shelf-tells) (c.in_ok-ending.ensures.tells_sink ∙ sink-tells) runs) are) in
    let closed = close-leaves asked c.requires.job.can.log_beside c.requires.job.can.report_beside s found steps ending ends.portions ends.ended
    (written c.search_on.new.shelf) (written c.close.new.shelf) (printed c.search_on.new.out) (printed c.close.new.out) c.close.result left in
    stand-between asked.checkpoints asked (written c.args.shelf.now) (written c.open.new.shelf) (written c.search_on.new.shelf)
    (written c.close.new.shelf) (outcome.Ended ending) opened closed (c.in_ok-ending.ensures.saved shelf-tells sink-tells)
