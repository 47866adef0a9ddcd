use Rattle.std.proofs.Common.{List, ℕ, [], ◌∷◌, ◌∙◌, subst}
use Rattle.write_order.specs.Writes.{Leaves, on_shelf, put_piece}
use Rattle.list_writer.proofs.writes.put_head.Goals as goal

pub returns-in-Ok-clause-left : goal.returns-in-Ok-clause-left
returns-in-Ok-clause-left g c = λ told printed.
    subst (λ (piece : List ℕ). Leaves (put_piece c.args.job.now.log.now piece ∷ []) (on_shelf (g.S.Shelf.written c.args.shelf.now)
    (g.S.Shelf.written c.put_piece.new.shelf) printed) c.put_piece.result)
    (c.deref.ensures.value ∙ c.in-Ok.ensures.text) (c.put_piece.ensures.left told printed)
