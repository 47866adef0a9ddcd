use Rattle.std.proofs.Common.{◌≡◌, ℕ, List, [], ◌∷◌, ◌∙◌, subst}
use Rattle.design_core.specs.declared.values.SetWithValues.{SetWithValues}
use Rattle.std.proofs.lemmas.Result.{err_from_is_err_and}
use Rattle.write_order.specs.Writes.{Leaves, begin_text, on_shelf, put_piece}
use Rattle.write_order.proofs.Carried.{leaves-then}
use Rattle.list_writer.specs.Jobs.{asked_of}
use Rattle.list_writer.specs.Texts.{report_of}
use Rattle.list_writer.proofs.Pairs.{leaves-within}
use Rattle.list_writer.proofs.listing.Listing.put_report.Goals as goal

pub returns-in_err-begin_text-in-Ok-clause-left : goal.returns-in_err-begin_text-in-Ok-clause-left
returns-in_err-begin_text-in-Ok-clause-left g c =
    let p = err_from_is_err_and c.from_residual.result c.from_residual.ensures.1 in
    rw (p.1, p.2) (λ told printed.
    leaves-within (begin_text c.args.self.now.job.report.now ∷ [])
    (put_piece c.args.self.now.job.report.now (report_of (asked_of c.args.self.now.job) c.args.self.now.found.items c.args.ending) ∷ [])
    (on_shelf (g.S.Shelf.written c.args.shelf.now) (g.S.Shelf.written c.begin_text.new.shelf) printed) c.in_err-begin_text-in-Ok.field-0.0
    (c.in_err-begin_text-in-Ok.ensures.left told printed))

pub returns-in_ok-begin_text-in-Ok-clause-left : goal.returns-in_ok-begin_text-in-Ok-clause-left
returns-in_ok-begin_text-in-Ok-clause-left g c = λ told printed.
    leaves-then {X = Unit {0}} (begin_text c.args.self.now.job.report.now ∷ [])
    (put_piece c.args.self.now.job.report.now (report_of (asked_of c.args.self.now.job) c.args.self.now.found.items c.args.ending) ∷ [])
    (g.S.Shelf.written c.args.shelf.now) (g.S.Shelf.written c.begin_text.new.shelf) (g.S.Shelf.written c.put_piece.new.shelf)
    printed printed printed c.put_piece.result
    (c.in_ok-begin_text-in-Ok.ensures.left told printed)
    (subst (λ (text : List ℕ). Leaves (put_piece c.args.self.now.job.report.now text ∷ [])
    (on_shelf (g.S.Shelf.written c.begin_text.new.shelf) (g.S.Shelf.written c.put_piece.new.shelf) printed) c.put_piece.result)
    (c.as_slice.ensures ∙ subst (λ (found : List SetWithValues). c.in-Ok.text ≡ report_of
    (asked_of c.args.self.now.job) found c.args.ending)
    c.deref.ensures.value c.in-Ok.ensures.text)
    (c.put_piece.ensures.left (c.in_ok-begin_text-in-Ok.ensures.tells ∙ told) printed))
