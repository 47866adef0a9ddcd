use Rattle.std.proofs.Common.{◌≡◌, ℕ, List, Option, Some, None, Ok, Err, true, ◌&&◌, ◌<◌, ◌∙◌, refl, sym, ap, ap₂, subst, length, arith}
use Rattle.std.specs.Prelude.{IsSome}
use Rattle.std.proofs.lemmas.Result.{err_from_is_err_and}
use Rattle.report_doc.specs.declared.types.Ending.{Ending}
use Rattle.report_doc.specs.declared.types.Ending.TheVariants.{Sets}
use Rattle.list_writer.specs.declared.job.Job.{Job}
use Rattle.list_writer.specs.Asked.{most_sets, no_session}
use Rattle.list_writer.specs.CheckpointNames.{beside}
use Rattle.list_writer.specs.Going.{IsTurn, outputs, turn_of}
use Rattle.list_writer.specs.Jobs.{asked_of, asked_with, session_of}
use Rattle.list_writer.specs.Reporting.{CanBeReported}
use Rattle.list_writer.specs.Saving.{IsSavable, SaveLeaves, outcome_of, saving_of}
use Rattle.list_writer.proofs.Pairs.{both}
use Rattle.list_writer.proofs.Paused.{OneNow, one-now, reportable}
use Rattle.list_writer.proofs.Saved.{causes-on, none-saved, save-beside, save-causes, save-short, save-stays, save-with, saved-on, saved-stays, saves-ended, saves-stopped}
use Rattle.list_writer.proofs.Turned.{ends-beside, errs-beside, goes-beside, kept-beside, turn-leaves}
use Rattle.list_writer.proofs.Turning.{ends-open, exits, goes-still, room, save-errs, starts}
use Rattle.list_writer.proofs.listing.Listing.search_sets.Goals as goal

pub loop-sizes-init : goal.loop-sizes-init
loop-sizes-init g c =
    let session = session_of c.args.self.now.found.items (g.D.Search.state c.args.self.now.search) in
    let asked = asked_with c.args.self.now.job session in
    record {
      job = refl;
      tells_shelf = refl;
      tells_sink = refl;
      texts = refl;
      begun = c.requires.begun;
      few = omega arith;
      goes = starts asked (g.D.Search.state c.args.self.now.search) c.args.self.now.found.items
          c.args.self.now.steps c.args.self.now.left c.requires.holds c.requires.goes_with c.requires.job.session refl c.requires.steps
          c.requires.units (beside asked.checkpoints (g.S.Shelf.written c.args.shelf.now)) (g.O.Sink.written c.args.out.now)
          (g.S.Shelf.tells c.args.shelf.now && g.O.Sink.tells c.args.out.now);
      saved = λ tells_shelf tells_sink. none-saved asked.checkpoints asked (g.S.Shelf.written c.args.shelf.now) c.none-saves.result.next c.none-saves.ensures;
      causes = (refl, refl);
    }

pub save-requires : goal.save-requires
save-requires g c =
    let session = session_of c.args.self.now.found.items (g.D.Search.state c.args.self.now.search) in
    let asked = asked_with c.args.self.now.job session in
    let state = g.D.Search.state in
    let inv = c.loop-sizes.invariant in
    let s = state c.loop-sizes.self.search in
    let found = c.loop-sizes.self.found.items in
    let many : c.len-in-loop-sizes.result ≡ length found = omega (arith, c.len-in-loop-sizes.ensures, c.loop-sizes.self.found.ok.0) in
    let first : c.len.result ≡ length c.args.self.now.found.items = omega (arith, c.len.ensures, c.args.self.now.found.ok.0) in
    let low : length found < most_sets asked = omega (arith, c.loop-sizes-test.true, many, first) in
    let can = reportable asked s found c.loop-sizes.self.steps c.loop-sizes.self.left inv.goes.portions inv.goes.going low c.requires.job.kinds in
    record {
      report = subst (λ (j : Job). CanBeReported (asked_of j) found) (sym inv.job)
          (record { kinds = can.kinds; size = can.size; sets = can.sets; within = can.within });
    }

pub returns-in_err-save-clause-left : goal.returns-in_err-save-clause-left
returns-in_err-save-clause-left g c =
    let session = session_of c.args.self.now.found.items (g.D.Search.state c.args.self.now.search) in
    let asked = asked_with c.args.self.now.job session in
    let state = g.D.Search.state in
    let inv = c.loop-sizes.invariant in
    let b = beside asked.checkpoints in
    let written = g.S.Shelf.written in
    let printed = g.O.Sink.written in
    let told = g.S.Shelf.tells c.args.shelf.now && g.O.Sink.tells c.args.out.now in
    let s = state c.loop-sizes.self.search in
    let found = c.loop-sizes.self.found.items in
    let leaves : g.S.Shelf.tells c.args.shelf.now ≡ true → SaveLeaves {X = Unit {0}} (saving_of asked s found c.loop-sizes.saves.next c.save.new.saves.next (written c.loop-sizes.shelf) (written c.save.new.shelf)) (Err c.in_err-save.field-0.0) = λ tells.
    subst (λ (j : Job). SaveLeaves {X = Unit {0}} (saving_of (asked_with j session) s found c.loop-sizes.saves.next c.save.new.saves.next (written c.loop-sizes.shelf) (written c.save.new.shelf)) (Err c.in_err-save.field-0.0)) inv.job
    (save-with (asked_of c.loop-sizes.self.job) session s found c.loop-sizes.saves.next c.save.new.saves.next (written c.loop-sizes.shelf)
    (written c.save.new.shelf) (Err c.in_err-save.field-0.0) (c.in_err-save.ensures.left (inv.tells_shelf ∙ tells))) in
    let still : told ≡ true → (name : List ℕ) → b (written c.save.new.shelf) name ≡ b (written c.loop-sizes.shelf) name = λ tells.
    save-beside (saving_of asked s found c.loop-sizes.saves.next c.save.new.saves.next (written c.loop-sizes.shelf) (written c.save.new.shelf)) (Err c.in_err-save.field-0.0) (leaves (both (g.S.Shelf.tells c.args.shelf.now) (g.O.Sink.tells c.args.out.now) tells).0) in
    let p = err_from_is_err_and c.from_residual.result c.from_residual.ensures.1 in
    let goes = goes-still asked s found c.loop-sizes.self.steps c.loop-sizes.self.left
    (b (written c.args.shelf.now)) (b (written c.loop-sizes.shelf)) (b (written c.save.new.shelf)) (printed c.args.out.now) (printed c.loop-sizes.out)
    told inv.goes still in
    rw (p.1, p.2) (save-errs asked s found c.loop-sizes.self.steps c.loop-sizes.self.left
    (outputs (b (written c.args.shelf.now)) (b (written c.save.new.shelf)) (printed c.args.out.now) (printed c.loop-sizes.out)) told goes
    c.in_err-save.field-0.0 (λ tells. save-short (saving_of asked s found c.loop-sizes.saves.next c.save.new.saves.next (written c.loop-sizes.shelf) (written c.save.new.shelf)) c.in_err-save.field-0.0
    (leaves (both (g.S.Shelf.tells c.args.shelf.now) (g.O.Sink.tells c.args.out.now) tells).0)))

pub returns-in_err-save-clause-saved : goal.returns-in_err-save-clause-saved
returns-in_err-save-clause-saved g c =
    let session = session_of c.args.self.now.found.items (g.D.Search.state c.args.self.now.search) in
    let asked = asked_with c.args.self.now.job session in
    let state = g.D.Search.state in
    let inv = c.loop-sizes.invariant in
    let written = g.S.Shelf.written in
    let s = state c.loop-sizes.self.search in
    let found = c.loop-sizes.self.found.items in
    let many : c.len-in-loop-sizes.result ≡ length found = omega (arith, c.len-in-loop-sizes.ensures, c.loop-sizes.self.found.ok.0) in
    let first : c.len.result ≡ length c.args.self.now.found.items = omega (arith, c.len.ensures, c.args.self.now.found.ok.0) in
    let low : length found < most_sets asked = omega (arith, c.loop-sizes-test.true, many, first) in
    let leaves : g.S.Shelf.tells c.args.shelf.now ≡ true → SaveLeaves {X = Unit {0}} (saving_of asked s found c.loop-sizes.saves.next c.save.new.saves.next (written c.loop-sizes.shelf) (written c.save.new.shelf)) (Err c.in_err-save.field-0.0) = λ tells.
    subst (λ (j : Job). SaveLeaves {X = Unit {0}} (saving_of (asked_with j session) s found c.loop-sizes.saves.next c.save.new.saves.next (written c.loop-sizes.shelf) (written c.save.new.shelf)) (Err c.in_err-save.field-0.0)) inv.job
    (save-with (asked_of c.loop-sizes.self.job) session s found c.loop-sizes.saves.next c.save.new.saves.next (written c.loop-sizes.shelf)
    (written c.save.new.shelf) (Err c.in_err-save.field-0.0) (c.in_err-save.ensures.left (inv.tells_shelf ∙ tells))) in
    let one : IsSavable asked s found → OneNow asked s found = λ savable.
    one-now asked s found c.loop-sizes.self.steps c.loop-sizes.self.left inv.goes.portions inv.goes.going low c.requires.job.few savable in
    let p = err_from_is_err_and c.from_residual.result c.from_residual.ensures.1 in
    rw (p.1, p.2) (λ tells_shelf tells_sink.
    saves-stopped asked s found c.loop-sizes.saves.next c.save.new.saves.next
    (written c.args.shelf.now) (written c.loop-sizes.shelf) (written c.save.new.shelf) one asked.checkpoints refl (inv.saved tells_shelf tells_sink)
    c.in_err-save.field-0.0 (leaves tells_shelf))

pub returns-in_err-save-clause-causes : goal.returns-in_err-save-clause-causes
returns-in_err-save-clause-causes g c =
    let p = err_from_is_err_and c.from_residual.result c.from_residual.ensures.1 in
    let inv = c.loop-sizes.invariant in
    rw (p.1, p.2) (save-causes (g.S.Shelf.faults c.args.shelf.now) (g.S.Shelf.faults c.loop-sizes.shelf) (g.S.Shelf.faults c.save.new.shelf)
    (g.O.Sink.faults c.args.out.now) (g.O.Sink.faults c.loop-sizes.out) c.in_err-save.field-0.0 inv.causes.0 inv.causes.1 c.in_err-save.ensures.cause)

pub advance-requires-clause-room : goal.advance-requires-clause-room
advance-requires-clause-room g c =
    let session = session_of c.args.self.now.found.items (g.D.Search.state c.args.self.now.search) in
    let asked = asked_with c.args.self.now.job session in
    let state = g.D.Search.state in
    let inv = c.loop-sizes.invariant in
    let b = beside asked.checkpoints in
    let written = g.S.Shelf.written in
    let printed = g.O.Sink.written in
    let told = g.S.Shelf.tells c.args.shelf.now && g.O.Sink.tells c.args.out.now in
    let s = state c.loop-sizes.self.search in
    let found = c.loop-sizes.self.found.items in
    room asked s found c.loop-sizes.self.steps c.loop-sizes.self.left
    (outputs (b (written c.args.shelf.now)) (b (written c.loop-sizes.shelf)) (printed c.args.out.now) (printed c.loop-sizes.out))
    told inv.goes c.requires.job.few inv.few

pub advance-requires-clause-problem : goal.advance-requires-clause-problem
advance-requires-clause-problem g c =
    c.loop-sizes.invariant.goes.going.problem ∙ sym (ap (λ job. (asked_of job).problem) c.loop-sizes.invariant.job)

pub advance-requires-clause-begun : goal.advance-requires-clause-begun
advance-requires-clause-begun g c = λ tells_now.
    let session = session_of c.args.self.now.found.items (g.D.Search.state c.args.self.now.search) in
    let asked = asked_with c.args.self.now.job session in
    let state = g.D.Search.state in
    let inv = c.loop-sizes.invariant in
    let written = g.S.Shelf.written in
    let s = state c.loop-sizes.self.search in
    let found = c.loop-sizes.self.found.items in
    let leaves : g.S.Shelf.tells c.args.shelf.now ≡ true → SaveLeaves {X = Unit {0}} (saving_of asked s found c.loop-sizes.saves.next c.save.new.saves.next (written c.loop-sizes.shelf) (written c.save.new.shelf)) (Ok c.in_ok-save.field-0) = λ tells.
    subst (λ (j : Job). SaveLeaves {X = Unit {0}} (saving_of (asked_with j session) s found c.loop-sizes.saves.next c.save.new.saves.next (written c.loop-sizes.shelf) (written c.save.new.shelf)) (Ok c.in_ok-save.field-0)) inv.job
    (save-with (asked_of c.loop-sizes.self.job) session s found c.loop-sizes.saves.next c.save.new.saves.next (written c.loop-sizes.shelf)
    (written c.save.new.shelf) (Ok c.in_ok-save.field-0) (c.in_ok-save.ensures.left (inv.tells_shelf ∙ tells))) in
    let tells : g.S.Shelf.tells c.args.shelf.now ≡ true = sym inv.tells_shelf ∙ sym c.in_ok-save.ensures.tells ∙ tells_now in
    subst (λ (j : Job). IsSome (written c.save.new.shelf j.log.now)) (sym inv.job)
    (subst (λ (text : Option (List ℕ)). IsSome text) (sym (save-stays (saving_of asked s found c.loop-sizes.saves.next c.save.new.saves.next (written c.loop-sizes.shelf) (written c.save.new.shelf)) (Ok c.in_ok-save.field-0) (leaves tells)
    c.args.self.now.job.log.now c.requires.job.can.log_beside)) (inv.begun tells))

pub returns-in_err-advance-clause-left : goal.returns-in_err-advance-clause-left
returns-in_err-advance-clause-left g c =
    let session = session_of c.args.self.now.found.items (g.D.Search.state c.args.self.now.search) in
    let asked = asked_with c.args.self.now.job session in
    let state = g.D.Search.state in
    let inv = c.loop-sizes.invariant in
    let b = beside asked.checkpoints in
    let written = g.S.Shelf.written in
    let printed = g.O.Sink.written in
    let told = g.S.Shelf.tells c.args.shelf.now && g.O.Sink.tells c.args.out.now in
    let s = state c.loop-sizes.self.search in
    let found = c.loop-sizes.self.found.items in
    let leaves : g.S.Shelf.tells c.args.shelf.now ≡ true → SaveLeaves {X = Unit {0}} (saving_of asked s found c.loop-sizes.saves.next c.save.new.saves.next (written c.loop-sizes.shelf) (written c.save.new.shelf)) (Ok c.in_ok-save.field-0) = λ tells.
    subst (λ (j : Job). SaveLeaves {X = Unit {0}} (saving_of (asked_with j session) s found c.loop-sizes.saves.next c.save.new.saves.next (written c.loop-sizes.shelf) (written c.save.new.shelf)) (Ok c.in_ok-save.field-0)) inv.job
    (save-with (asked_of c.loop-sizes.self.job) session s found c.loop-sizes.saves.next c.save.new.saves.next (written c.loop-sizes.shelf)
    (written c.save.new.shelf) (Ok c.in_ok-save.field-0) (c.in_ok-save.ensures.left (inv.tells_shelf ∙ tells))) in
    let still : told ≡ true → (name : List ℕ) → b (written c.save.new.shelf) name ≡ b (written c.loop-sizes.shelf) name = λ tells.
    save-beside (saving_of asked s found c.loop-sizes.saves.next c.save.new.saves.next (written c.loop-sizes.shelf) (written c.save.new.shelf)) (Ok c.in_ok-save.field-0) (leaves (both (g.S.Shelf.tells c.args.shelf.now) (g.O.Sink.tells c.args.out.now) tells).0) in
    let now-told = g.S.Shelf.tells c.save.new.shelf && g.O.Sink.tells c.loop-sizes.out in
    let same : now-told ≡ told = ap₂ (λ a b. a && b) (c.in_ok-save.ensures.tells ∙ inv.tells_shelf) inv.tells_sink in
    let turn = (subst (λ (j : Job). IsTurn (turn_of (asked_with j session) s (state c.advance.new.self.search)
    (record { found = found; steps = c.loop-sizes.self.steps; left = c.loop-sizes.self.left })
    (record { found = c.advance.new.self.found.items; steps = c.advance.new.self.steps; left = c.advance.new.self.left })
    (outputs (written c.save.new.shelf) (written c.advance.new.shelf) (printed c.loop-sizes.out) (printed c.advance.new.out)) now-told) (Err c.in_err-advance.field-0.0)) inv.job (c.in_err-advance.ensures.turn session)) in
    let p = err_from_is_err_and c.from_residual-in_err-advance.result c.from_residual-in_err-advance.ensures.1 in
    rw (p.1, p.2) (errs-beside asked c.requires.job.can.log_beside s (state c.advance.new.self.search) found c.advance.new.self.found.items
    c.loop-sizes.self.steps c.advance.new.self.steps c.loop-sizes.self.left c.advance.new.self.left
    (written c.args.shelf.now) (written c.loop-sizes.shelf) (written c.save.new.shelf) (written c.advance.new.shelf)
    (printed c.args.out.now) (printed c.loop-sizes.out) (printed c.advance.new.out) told now-told same inv.goes still
    c.in_err-advance.field-0.0 turn)

pub returns-in_err-advance-clause-saved : goal.returns-in_err-advance-clause-saved
returns-in_err-advance-clause-saved g c =
    let session = session_of c.args.self.now.found.items (g.D.Search.state c.args.self.now.search) in
    let asked = asked_with c.args.self.now.job session in
    let state = g.D.Search.state in
    let inv = c.loop-sizes.invariant in
    let b = beside asked.checkpoints in
    let written = g.S.Shelf.written in
    let printed = g.O.Sink.written in
    let told = g.S.Shelf.tells c.args.shelf.now && g.O.Sink.tells c.args.out.now in
    let s = state c.loop-sizes.self.search in
    let found = c.loop-sizes.self.found.items in
    let many : c.len-in-loop-sizes.result ≡ length found = omega (arith, c.len-in-loop-sizes.ensures, c.loop-sizes.self.found.ok.0) in
    let first : c.len.result ≡ length c.args.self.now.found.items = omega (arith, c.len.ensures, c.args.self.now.found.ok.0) in
    let low : length found < most_sets asked = omega (arith, c.loop-sizes-test.true, many, first) in
    let leaves : g.S.Shelf.tells c.args.shelf.now ≡ true → SaveLeaves {X = Unit {0}} (saving_of asked s found c.loop-sizes.saves.next c.save.new.saves.next (written c.loop-sizes.shelf) (written c.save.new.shelf)) (Ok c.in_ok-save.field-0) = λ tells.
    subst (λ (j : Job). SaveLeaves {X = Unit {0}} (saving_of (asked_with j session) s found c.loop-sizes.saves.next c.save.new.saves.next (written c.loop-sizes.shelf) (written c.save.new.shelf)) (Ok c.in_ok-save.field-0)) inv.job
    (save-with (asked_of c.loop-sizes.self.job) session s found c.loop-sizes.saves.next c.save.new.saves.next (written c.loop-sizes.shelf)
    (written c.save.new.shelf) (Ok c.in_ok-save.field-0) (c.in_ok-save.ensures.left (inv.tells_shelf ∙ tells))) in
    let still : told ≡ true → (name : List ℕ) → b (written c.save.new.shelf) name ≡ b (written c.loop-sizes.shelf) name = λ tells.
    save-beside (saving_of asked s found c.loop-sizes.saves.next c.save.new.saves.next (written c.loop-sizes.shelf) (written c.save.new.shelf)) (Ok c.in_ok-save.field-0) (leaves (both (g.S.Shelf.tells c.args.shelf.now) (g.O.Sink.tells c.args.out.now) tells).0) in
    let now-told = g.S.Shelf.tells c.save.new.shelf && g.O.Sink.tells c.loop-sizes.out in
    let same : now-told ≡ told = ap₂ (λ a b. a && b) (c.in_ok-save.ensures.tells ∙ inv.tells_shelf) inv.tells_sink in
    let one : IsSavable asked s found → OneNow asked s found = λ savable.
    one-now asked s found c.loop-sizes.self.steps c.loop-sizes.self.left inv.goes.portions inv.goes.going low c.requires.job.few savable in
    let turn = (subst (λ (j : Job). IsTurn (turn_of (asked_with j session) s (state c.advance.new.self.search)
    (record { found = found; steps = c.loop-sizes.self.steps; left = c.loop-sizes.self.left })
    (record { found = c.advance.new.self.found.items; steps = c.advance.new.self.steps; left = c.advance.new.self.left })
    (outputs (written c.save.new.shelf) (written c.advance.new.shelf) (printed c.loop-sizes.out) (printed c.advance.new.out)) now-told) (Err c.in_err-advance.field-0.0)) inv.job (c.in_err-advance.ensures.turn session)) in
    let p = err_from_is_err_and c.from_residual-in_err-advance.result c.from_residual-in_err-advance.ensures.1 in
    rw (p.1, p.2) (λ tells_shelf tells_sink.
    saves-ended asked.checkpoints asked (written c.args.shelf.now) (written c.advance.new.shelf) c.save.new.saves.next (outcome_of (Err c.in_err-advance.field-0.0))
    (saved-stays asked.checkpoints asked (written c.args.shelf.now) (written c.save.new.shelf) (written c.advance.new.shelf) c.save.new.saves.next
    (saved-on asked s found c.loop-sizes.saves.next c.save.new.saves.next
    (written c.args.shelf.now) (written c.loop-sizes.shelf) (written c.save.new.shelf) one asked.checkpoints refl (inv.saved tells_shelf tells_sink)
    c.in_ok-save.field-0 (leaves tells_shelf))
    (turn-leaves asked c.requires.job.can.log_beside s (state c.advance.new.self.search) found c.advance.new.self.found.items
    c.loop-sizes.self.steps c.advance.new.self.steps c.loop-sizes.self.left c.advance.new.self.left
    (written c.args.shelf.now) (written c.loop-sizes.shelf) (written c.save.new.shelf) (written c.advance.new.shelf)
    (printed c.args.out.now) (printed c.loop-sizes.out) (printed c.advance.new.out) told now-told same inv.goes still
    (same ∙ ap₂ (λ a b. a && b) tells_shelf tells_sink) (Err c.in_err-advance.field-0.0) turn)))

pub returns-in_err-advance-clause-causes : goal.returns-in_err-advance-clause-causes
returns-in_err-advance-clause-causes g c =
    let p = err_from_is_err_and c.from_residual-in_err-advance.result c.from_residual-in_err-advance.ensures.1 in
    let inv = c.loop-sizes.invariant in
    rw (p.1, p.2) (causes-on (g.S.Shelf.faults c.args.shelf.now) (g.S.Shelf.faults c.save.new.shelf) (g.S.Shelf.faults c.advance.new.shelf)
    (g.O.Sink.faults c.args.out.now) (g.O.Sink.faults c.loop-sizes.out) (g.O.Sink.faults c.advance.new.out) c.in_err-advance.field-0.0
    (c.in_ok-save.ensures.cause ∙ inv.causes.0) inv.causes.1 c.in_err-advance.ensures.causes)

pub returns-in-Some-clause-left : goal.returns-in-Some-clause-left
returns-in-Some-clause-left g c =
    let session = session_of c.args.self.now.found.items (g.D.Search.state c.args.self.now.search) in
    let asked = asked_with c.args.self.now.job session in
    let state = g.D.Search.state in
    let inv = c.loop-sizes.invariant in
    let b = beside asked.checkpoints in
    let written = g.S.Shelf.written in
    let printed = g.O.Sink.written in
    let told = g.S.Shelf.tells c.args.shelf.now && g.O.Sink.tells c.args.out.now in
    let s = state c.loop-sizes.self.search in
    let found = c.loop-sizes.self.found.items in
    let many : c.len-in-loop-sizes.result ≡ length found = omega (arith, c.len-in-loop-sizes.ensures, c.loop-sizes.self.found.ok.0) in
    let first : c.len.result ≡ length c.args.self.now.found.items = omega (arith, c.len.ensures, c.args.self.now.found.ok.0) in
    let low : length found < most_sets asked = omega (arith, c.loop-sizes-test.true, many, first) in
    let leaves : g.S.Shelf.tells c.args.shelf.now ≡ true → SaveLeaves {X = Unit {0}} (saving_of asked s found c.loop-sizes.saves.next c.save.new.saves.next (written c.loop-sizes.shelf) (written c.save.new.shelf)) (Ok c.in_ok-save.field-0) = λ tells.
    subst (λ (j : Job). SaveLeaves {X = Unit {0}} (saving_of (asked_with j session) s found c.loop-sizes.saves.next c.save.new.saves.next (written c.loop-sizes.shelf) (written c.save.new.shelf)) (Ok c.in_ok-save.field-0)) inv.job
    (save-with (asked_of c.loop-sizes.self.job) session s found c.loop-sizes.saves.next c.save.new.saves.next (written c.loop-sizes.shelf)
    (written c.save.new.shelf) (Ok c.in_ok-save.field-0) (c.in_ok-save.ensures.left (inv.tells_shelf ∙ tells))) in
    let still : told ≡ true → (name : List ℕ) → b (written c.save.new.shelf) name ≡ b (written c.loop-sizes.shelf) name = λ tells.
    save-beside (saving_of asked s found c.loop-sizes.saves.next c.save.new.saves.next (written c.loop-sizes.shelf) (written c.save.new.shelf)) (Ok c.in_ok-save.field-0) (leaves (both (g.S.Shelf.tells c.args.shelf.now) (g.O.Sink.tells c.args.out.now) tells).0) in
    let now-told = g.S.Shelf.tells c.save.new.shelf && g.O.Sink.tells c.loop-sizes.out in
    let same : now-told ≡ told = ap₂ (λ a b. a && b) (c.in_ok-save.ensures.tells ∙ inv.tells_shelf) inv.tells_sink in
    let turn = (subst (λ (o : Option Ending). IsTurn (turn_of asked s (state c.advance.new.self.search)
    (record { found = found; steps = c.loop-sizes.self.steps; left = c.loop-sizes.self.left })
    (record { found = c.advance.new.self.found.items; steps = c.advance.new.self.steps; left = c.advance.new.self.left })
    (outputs (written c.save.new.shelf) (written c.advance.new.shelf) (printed c.loop-sizes.out) (printed c.advance.new.out)) now-told) (Ok o)) c.in-Some.is
    (subst (λ (j : Job). IsTurn (turn_of (asked_with j session) s (state c.advance.new.self.search)
    (record { found = found; steps = c.loop-sizes.self.steps; left = c.loop-sizes.self.left })
    (record { found = c.advance.new.self.found.items; steps = c.advance.new.self.steps; left = c.advance.new.self.left })
    (outputs (written c.save.new.shelf) (written c.advance.new.shelf) (printed c.loop-sizes.out) (printed c.advance.new.out)) now-told) (Ok c.in_ok-advance.field-0)) inv.job (c.in_ok-advance.ensures.turn session))) in
    ends-beside asked c.requires.job.can.log_beside s (state c.advance.new.self.search) found c.advance.new.self.found.items
    c.loop-sizes.self.steps c.advance.new.self.steps c.loop-sizes.self.left c.advance.new.self.left
    (written c.args.shelf.now) (written c.loop-sizes.shelf) (written c.save.new.shelf) (written c.advance.new.shelf)
    (printed c.args.out.now) (printed c.loop-sizes.out) (printed c.advance.new.out) told now-told same inv.goes still
    c.in-Some.ending low turn

pub returns-in-Some-clause-saved : goal.returns-in-Some-clause-saved
returns-in-Some-clause-saved g c = λ tells_shelf tells_sink.
    let session = session_of c.args.self.now.found.items (g.D.Search.state c.args.self.now.search) in
    let asked = asked_with c.args.self.now.job session in
    let state = g.D.Search.state in
    let inv = c.loop-sizes.invariant in
    let b = beside asked.checkpoints in
    let written = g.S.Shelf.written in
    let printed = g.O.Sink.written in
    let told = g.S.Shelf.tells c.args.shelf.now && g.O.Sink.tells c.args.out.now in
    let s = state c.loop-sizes.self.search in
    let found = c.loop-sizes.self.found.items in
    let many : c.len-in-loop-sizes.result ≡ length found = omega (arith, c.len-in-loop-sizes.ensures, c.loop-sizes.self.found.ok.0) in
    let first : c.len.result ≡ length c.args.self.now.found.items = omega (arith, c.len.ensures, c.args.self.now.found.ok.0) in
    let low : length found < most_sets asked = omega (arith, c.loop-sizes-test.true, many, first) in
    let leaves : g.S.Shelf.tells c.args.shelf.now ≡ true → SaveLeaves {X = Unit {0}} (saving_of asked s found c.loop-sizes.saves.next c.save.new.saves.next (written c.loop-sizes.shelf) (written c.save.new.shelf)) (Ok c.in_ok-save.field-0) = λ tells.
    subst (λ (j : Job). SaveLeaves {X = Unit {0}} (saving_of (asked_with j session) s found c.loop-sizes.saves.next c.save.new.saves.next (written c.loop-sizes.shelf) (written c.save.new.shelf)) (Ok c.in_ok-save.field-0)) inv.job
    (save-with (asked_of c.loop-sizes.self.job) session s found c.loop-sizes.saves.next c.save.new.saves.next (written c.loop-sizes.shelf)
    (written c.save.new.shelf) (Ok c.in_ok-save.field-0) (c.in_ok-save.ensures.left (inv.tells_shelf ∙ tells))) in
    let still : told ≡ true → (name : List ℕ) → b (written c.save.new.shelf) name ≡ b (written c.loop-sizes.shelf) name = λ tells.
    save-beside (saving_of asked s found c.loop-sizes.saves.next c.save.new.saves.next (written c.loop-sizes.shelf) (written c.save.new.shelf)) (Ok c.in_ok-save.field-0) (leaves (both (g.S.Shelf.tells c.args.shelf.now) (g.O.Sink.tells c.args.out.now) tells).0) in
    let now-told = g.S.Shelf.tells c.save.new.shelf && g.O.Sink.tells c.loop-sizes.out in
    let same : now-told ≡ told = ap₂ (λ a b. a && b) (c.in_ok-save.ensures.tells ∙ inv.tells_shelf) inv.tells_sink in
    let one : IsSavable asked s found → OneNow asked s found = λ savable.
    one-now asked s found c.loop-sizes.self.steps c.loop-sizes.self.left inv.goes.portions inv.goes.going low c.requires.job.few savable in
    let turn = (subst (λ (o : Option Ending). IsTurn (turn_of asked s (state c.advance.new.self.search)
    (record { found = found; steps = c.loop-sizes.self.steps; left = c.loop-sizes.self.left })
    (record { found = c.advance.new.self.found.items; steps = c.advance.new.self.steps; left = c.advance.new.self.left })
    (outputs (written c.save.new.shelf) (written c.advance.new.shelf) (printed c.loop-sizes.out) (printed c.advance.new.out)) now-told) (Ok o)) c.in-Some.is
    (subst (λ (j : Job). IsTurn (turn_of (asked_with j session) s (state c.advance.new.self.search)
    (record { found = found; steps = c.loop-sizes.self.steps; left = c.loop-sizes.self.left })
    (record { found = c.advance.new.self.found.items; steps = c.advance.new.self.steps; left = c.advance.new.self.left })
    (outputs (written c.save.new.shelf) (written c.advance.new.shelf) (printed c.loop-sizes.out) (printed c.advance.new.out)) now-told) (Ok c.in_ok-advance.field-0)) inv.job (c.in_ok-advance.ensures.turn session))) in
    saves-ended asked.checkpoints asked (written c.args.shelf.now) (written c.advance.new.shelf) c.save.new.saves.next (outcome_of (Ok c.in-Some.ending))
    (saved-stays asked.checkpoints asked (written c.args.shelf.now) (written c.save.new.shelf) (written c.advance.new.shelf) c.save.new.saves.next
    (saved-on asked s found c.loop-sizes.saves.next c.save.new.saves.next
    (written c.args.shelf.now) (written c.loop-sizes.shelf) (written c.save.new.shelf) one asked.checkpoints refl (inv.saved tells_shelf tells_sink)
    c.in_ok-save.field-0 (leaves tells_shelf))
    (turn-leaves asked c.requires.job.can.log_beside s (state c.advance.new.self.search) found c.advance.new.self.found.items
    c.loop-sizes.self.steps c.advance.new.self.steps c.loop-sizes.self.left c.advance.new.self.left
    (written c.args.shelf.now) (written c.loop-sizes.shelf) (written c.save.new.shelf) (written c.advance.new.shelf)
    (printed c.args.out.now) (printed c.loop-sizes.out) (printed c.advance.new.out) told now-told same inv.goes still
    (same ∙ ap₂ (λ a b. a && b) tells_shelf tells_sink) (Ok (Some c.in-Some.ending)) turn))

pub loop-sizes-preserved : goal.loop-sizes-preserved
loop-sizes-preserved g c =
    let session = session_of c.args.self.now.found.items (g.D.Search.state c.args.self.now.search) in
    let asked = asked_with c.args.self.now.job session in
    let state = g.D.Search.state in
    let inv = c.loop-sizes.invariant in
    let b = beside asked.checkpoints in
    let written = g.S.Shelf.written in
    let printed = g.O.Sink.written in
    let told = g.S.Shelf.tells c.args.shelf.now && g.O.Sink.tells c.args.out.now in
    let s = state c.loop-sizes.self.search in
    let found = c.loop-sizes.self.found.items in
    let many : c.len-in-loop-sizes.result ≡ length found = omega (arith, c.len-in-loop-sizes.ensures, c.loop-sizes.self.found.ok.0) in
    let first : c.len.result ≡ length c.args.self.now.found.items = omega (arith, c.len.ensures, c.args.self.now.found.ok.0) in
    let low : length found < most_sets asked = omega (arith, c.loop-sizes-test.true, many, first) in
    let leaves : g.S.Shelf.tells c.args.shelf.now ≡ true → SaveLeaves {X = Unit {0}} (saving_of asked s found c.loop-sizes.saves.next c.save.new.saves.next (written c.loop-sizes.shelf) (written c.save.new.shelf)) (Ok c.in_ok-save.field-0) = λ tells.
    subst (λ (j : Job). SaveLeaves {X = Unit {0}} (saving_of (asked_with j session) s found c.loop-sizes.saves.next c.save.new.saves.next (written c.loop-sizes.shelf) (written c.save.new.shelf)) (Ok c.in_ok-save.field-0)) inv.job
    (save-with (asked_of c.loop-sizes.self.job) session s found c.loop-sizes.saves.next c.save.new.saves.next (written c.loop-sizes.shelf)
    (written c.save.new.shelf) (Ok c.in_ok-save.field-0) (c.in_ok-save.ensures.left (inv.tells_shelf ∙ tells))) in
    let still : told ≡ true → (name : List ℕ) → b (written c.save.new.shelf) name ≡ b (written c.loop-sizes.shelf) name = λ tells.
    save-beside (saving_of asked s found c.loop-sizes.saves.next c.save.new.saves.next (written c.loop-sizes.shelf) (written c.save.new.shelf)) (Ok c.in_ok-save.field-0) (leaves (both (g.S.Shelf.tells c.args.shelf.now) (g.O.Sink.tells c.args.out.now) tells).0) in
    let now-told = g.S.Shelf.tells c.save.new.shelf && g.O.Sink.tells c.loop-sizes.out in
    let same : now-told ≡ told = ap₂ (λ a b. a && b) (c.in_ok-save.ensures.tells ∙ inv.tells_shelf) inv.tells_sink in
    let one : IsSavable asked s found → OneNow asked s found = λ savable.
    one-now asked s found c.loop-sizes.self.steps c.loop-sizes.self.left inv.goes.portions inv.goes.going low c.requires.job.few savable in
    let turn = (subst (λ (o : Option Ending). IsTurn (turn_of asked s (state c.advance.new.self.search)
    (record { found = found; steps = c.loop-sizes.self.steps; left = c.loop-sizes.self.left })
    (record { found = c.advance.new.self.found.items; steps = c.advance.new.self.steps; left = c.advance.new.self.left })
    (outputs (written c.save.new.shelf) (written c.advance.new.shelf) (printed c.loop-sizes.out) (printed c.advance.new.out)) now-told) (Ok o)) c.in-None.is
    (subst (λ (j : Job). IsTurn (turn_of (asked_with j session) s (state c.advance.new.self.search)
    (record { found = found; steps = c.loop-sizes.self.steps; left = c.loop-sizes.self.left })
    (record { found = c.advance.new.self.found.items; steps = c.advance.new.self.steps; left = c.advance.new.self.left })
    (outputs (written c.save.new.shelf) (written c.advance.new.shelf) (printed c.loop-sizes.out) (printed c.advance.new.out)) now-told) (Ok c.in_ok-advance.field-0)) inv.job (c.in_ok-advance.ensures.turn session))) in
    let kept = kept-beside asked c.requires.job.can.log_beside s (state c.advance.new.self.search) found c.advance.new.self.found.items
    c.loop-sizes.self.steps c.advance.new.self.steps c.loop-sizes.self.left c.advance.new.self.left
    (written c.args.shelf.now) (written c.loop-sizes.shelf) (written c.save.new.shelf) (written c.advance.new.shelf)
    (printed c.args.out.now) (printed c.loop-sizes.out) (printed c.advance.new.out) told now-told same inv.goes still turn in
    record {
      job = c.in_ok-advance.ensures.job ∙ inv.job;
      tells_shelf = c.in_ok-advance.ensures.tells_shelf ∙ c.in_ok-save.ensures.tells ∙ inv.tells_shelf;
      tells_sink = c.in_ok-advance.ensures.tells_sink ∙ inv.tells_sink;
      texts = c.in_ok-advance.ensures.texts ∙ c.in_ok-save.ensures.texts ∙ inv.texts;
      begun = λ tells. subst (λ (j : Job). IsSome (written c.advance.new.shelf j.log.now)) inv.job
          (c.in_ok-advance.ensures.begun (c.in_ok-save.ensures.tells ∙ inv.tells_shelf ∙ tells));
      few = omega (arith, low, kept.0);
      goes = goes-beside asked c.requires.job.can.log_beside s (state c.advance.new.self.search) found c.advance.new.self.found.items
          c.loop-sizes.self.steps c.advance.new.self.steps c.loop-sizes.self.left c.advance.new.self.left
          (written c.args.shelf.now) (written c.loop-sizes.shelf) (written c.save.new.shelf) (written c.advance.new.shelf)
          (printed c.args.out.now) (printed c.loop-sizes.out) (printed c.advance.new.out) told now-told same inv.goes still turn;
      saved = λ tells_shelf tells_sink. saved-stays asked.checkpoints asked (written c.args.shelf.now) (written c.save.new.shelf) (written c.advance.new.shelf) c.save.new.saves.next
          (saved-on asked s found c.loop-sizes.saves.next c.save.new.saves.next
          (written c.args.shelf.now) (written c.loop-sizes.shelf) (written c.save.new.shelf) one asked.checkpoints refl (inv.saved tells_shelf tells_sink)
          c.in_ok-save.field-0 (leaves tells_shelf))
          (turn-leaves asked c.requires.job.can.log_beside s (state c.advance.new.self.search) found c.advance.new.self.found.items
          c.loop-sizes.self.steps c.advance.new.self.steps c.loop-sizes.self.left c.advance.new.self.left
          (written c.args.shelf.now) (written c.loop-sizes.shelf) (written c.save.new.shelf) (written c.advance.new.shelf)
          (printed c.args.out.now) (printed c.loop-sizes.out) (printed c.advance.new.out) told now-told same inv.goes still
          (same ∙ ap₂ (λ a b. a && b) tells_shelf tells_sink) (Ok None) turn);
      causes = (c.in_ok-advance.ensures.causes.0 ∙ c.in_ok-save.ensures.cause ∙ inv.causes.0, c.in_ok-advance.ensures.causes.1 ∙ inv.causes.1);
    }

pub loop-sizes-smaller : goal.loop-sizes-smaller
loop-sizes-smaller g c =
    let session = session_of c.args.self.now.found.items (g.D.Search.state c.args.self.now.search) in
    let asked = asked_with c.args.self.now.job session in
    let state = g.D.Search.state in
    let inv = c.loop-sizes.invariant in
    let b = beside asked.checkpoints in
    let written = g.S.Shelf.written in
    let printed = g.O.Sink.written in
    let told = g.S.Shelf.tells c.args.shelf.now && g.O.Sink.tells c.args.out.now in
    let s = state c.loop-sizes.self.search in
    let found = c.loop-sizes.self.found.items in
    let many : c.len-in-loop-sizes.result ≡ length found = omega (arith, c.len-in-loop-sizes.ensures, c.loop-sizes.self.found.ok.0) in
    let first : c.len.result ≡ length c.args.self.now.found.items = omega (arith, c.len.ensures, c.args.self.now.found.ok.0) in
    let low : length found < most_sets asked = omega (arith, c.loop-sizes-test.true, many, first) in
    let leaves : g.S.Shelf.tells c.args.shelf.now ≡ true → SaveLeaves {X = Unit {0}} (saving_of asked s found c.loop-sizes.saves.next c.save.new.saves.next (written c.loop-sizes.shelf) (written c.save.new.shelf)) (Ok c.in_ok-save.field-0) = λ tells.
    subst (λ (j : Job). SaveLeaves {X = Unit {0}} (saving_of (asked_with j session) s found c.loop-sizes.saves.next c.save.new.saves.next (written c.loop-sizes.shelf) (written c.save.new.shelf)) (Ok c.in_ok-save.field-0)) inv.job
    (save-with (asked_of c.loop-sizes.self.job) session s found c.loop-sizes.saves.next c.save.new.saves.next (written c.loop-sizes.shelf)
    (written c.save.new.shelf) (Ok c.in_ok-save.field-0) (c.in_ok-save.ensures.left (inv.tells_shelf ∙ tells))) in
    let still : told ≡ true → (name : List ℕ) → b (written c.save.new.shelf) name ≡ b (written c.loop-sizes.shelf) name = λ tells.
    save-beside (saving_of asked s found c.loop-sizes.saves.next c.save.new.saves.next (written c.loop-sizes.shelf) (written c.save.new.shelf)) (Ok c.in_ok-save.field-0) (leaves (both (g.S.Shelf.tells c.args.shelf.now) (g.O.Sink.tells c.args.out.now) tells).0) in
    let now-told = g.S.Shelf.tells c.save.new.shelf && g.O.Sink.tells c.loop-sizes.out in
    let same : now-told ≡ told = ap₂ (λ a b. a && b) (c.in_ok-save.ensures.tells ∙ inv.tells_shelf) inv.tells_sink in
    let turn = (subst (λ (o : Option Ending). IsTurn (turn_of asked s (state c.advance.new.self.search)
    (record { found = found; steps = c.loop-sizes.self.steps; left = c.loop-sizes.self.left })
    (record { found = c.advance.new.self.found.items; steps = c.advance.new.self.steps; left = c.advance.new.self.left })
    (outputs (written c.save.new.shelf) (written c.advance.new.shelf) (printed c.loop-sizes.out) (printed c.advance.new.out)) now-told) (Ok o)) c.in-None.is
    (subst (λ (j : Job). IsTurn (turn_of (asked_with j session) s (state c.advance.new.self.search)
    (record { found = found; steps = c.loop-sizes.self.steps; left = c.loop-sizes.self.left })
    (record { found = c.advance.new.self.found.items; steps = c.advance.new.self.steps; left = c.advance.new.self.left })
    (outputs (written c.save.new.shelf) (written c.advance.new.shelf) (printed c.loop-sizes.out) (printed c.advance.new.out)) now-told) (Ok c.in_ok-advance.field-0)) inv.job (c.in_ok-advance.ensures.turn session))) in
    let kept = kept-beside asked c.requires.job.can.log_beside s (state c.advance.new.self.search) found c.advance.new.self.found.items
    c.loop-sizes.self.steps c.advance.new.self.steps c.loop-sizes.self.left c.advance.new.self.left
    (written c.args.shelf.now) (written c.loop-sizes.shelf) (written c.save.new.shelf) (written c.advance.new.shelf)
    (printed c.args.out.now) (printed c.loop-sizes.out) (printed c.advance.new.out) told now-told same inv.goes still turn in
    omega (arith, low, kept.0, kept.1)

pub returns-clause-left : goal.returns-clause-left
returns-clause-left g c =
    let session = session_of c.args.self.now.found.items (g.D.Search.state c.args.self.now.search) in
    let asked = asked_with c.args.self.now.job session in
    let state = g.D.Search.state in
    let inv = c.loop-sizes.invariant in
    let b = beside asked.checkpoints in
    let written = g.S.Shelf.written in
    let printed = g.O.Sink.written in
    let told = g.S.Shelf.tells c.args.shelf.now && g.O.Sink.tells c.args.out.now in
    let s = state c.loop-sizes.self.search in
    let found = c.loop-sizes.self.found.items in
    let many : c.len-in-loop-sizes.result ≡ length found = omega (arith, c.len-in-loop-sizes.ensures, c.loop-sizes.self.found.ok.0) in
    let first : c.len.result ≡ length c.args.self.now.found.items = omega (arith, c.len.ensures, c.args.self.now.found.ok.0) in
    exits asked s found c.loop-sizes.self.steps c.loop-sizes.self.left
    (outputs (b (written c.args.shelf.now)) (b (written c.loop-sizes.shelf)) (printed c.args.out.now) (printed c.loop-sizes.out))
    told inv.goes (omega (arith, c.loop-sizes-test.false, many, first)) inv.few

pub returns-clause-saved : goal.returns-clause-saved
returns-clause-saved g c = λ tells_shelf tells_sink.
    let asked = asked_with c.args.self.now.job (session_of c.args.self.now.found.items (g.D.Search.state c.args.self.now.search)) in
    saves-ended asked.checkpoints asked (g.S.Shelf.written c.args.shelf.now) (g.S.Shelf.written c.loop-sizes.shelf) c.loop-sizes.saves.next
    (outcome_of (Ok Sets)) (c.loop-sizes.invariant.saved tells_shelf tells_sink)

pub returns-clause-goes_on : goal.returns-clause-goes_on
returns-clause-goes_on g c = λ front. c.loop-sizes.invariant.goes.going.goes_on

pub returns-clause-unfinished : goal.returns-clause-unfinished
returns-clause-unfinished g c = c.loop-sizes.invariant.goes.going.unfinished

pub returns-in-Some-clause-goes_on : goal.returns-in-Some-clause-goes_on
returns-in-Some-clause-goes_on g c = ends-open _ _ _ c.in-Some.is (c.in_ok-advance.ensures.turn no_session).answer

pub returns-in-Some-clause-unfinished : goal.returns-in-Some-clause-unfinished
returns-in-Some-clause-unfinished g c = (c.in_ok-advance.ensures.turn no_session).searches.finished ∙ c.loop-sizes.invariant.goes.going.unfinished
