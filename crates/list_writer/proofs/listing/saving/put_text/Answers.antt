use Rattle.std.proofs.Common.{[], ◌∷◌, ◌∙◌}
use Rattle.std.proofs.lemmas.Result.{err_from_is_err_and}
use Rattle.write_order.specs.Writes.{begin_text, on_shelf, put_piece}
use Rattle.write_order.proofs.Carried.{leaves-then}
use Rattle.list_writer.proofs.Pairs.{leaves-within}
use Rattle.list_writer.proofs.listing.saving.put_text.Goals as goal

pub returns-in_err-begin_text-clause-left : goal.returns-in_err-begin_text-clause-left
returns-in_err-begin_text-clause-left g c =
    let p = err_from_is_err_and c.from_residual.result c.from_residual.ensures.1 in
    rw (p.1, p.2) (λ told printed.
    leaves-within (begin_text c.args.name.now ∷ []) (put_piece c.args.name.now c.args.text.now ∷ [])
    (on_shelf (g.S.Shelf.written c.args.shelf.now) (g.S.Shelf.written c.begin_text.new.shelf) printed) c.in_err-begin_text.field-0.0
    (c.in_err-begin_text.ensures.left told printed))

pub returns-clause-left : goal.returns-clause-left
returns-clause-left g c = λ told printed.
    leaves-then {X = Unit {0}} (begin_text c.args.name.now ∷ []) (put_piece c.args.name.now c.args.text.now ∷ [])
    (g.S.Shelf.written c.args.shelf.now) (g.S.Shelf.written c.begin_text.new.shelf) (g.S.Shelf.written c.put_piece.new.shelf)
    printed printed printed c.put_piece.result (c.in_ok-begin_text.ensures.left told printed)
    (c.put_piece.ensures.left (c.in_ok-begin_text.ensures.tells ∙ told) printed)
