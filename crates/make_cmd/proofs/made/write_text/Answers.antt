use Rattle.std.proofs.Common.{List, ℕ, [], ◌∷◌, ◌∙◌, subst, Ok, Err}
use Rattle.std.proofs.lemmas.Result.{err_from_is_err_and}
use Rattle.write_order.specs.Writes.{Leaves, begin_text, on_shelf, put_piece}
use Rattle.write_order.proofs.Carried.{leaves-then}
use Rattle.make_cmd.proofs.Texts.{error-within}
use Rattle.make_cmd.proofs.made.write_text.Goals as goal

pub returns-in_err-begin_text-clause-left : goal.returns-in_err-begin_text-clause-left
returns-in_err-begin_text-clause-left g c =
    let p = err_from_is_err_and c.from_residual.result c.from_residual.ensures.1 in
    rw (p.1, p.2) (λ told printed.
    error-within (begin_text c.args.name.now ∷ []) (put_piece c.args.name.now c.args.text.now ∷ [])
    (g.S.Shelf.written c.args.shelf.now) (g.S.Shelf.written c.begin_text.new.shelf) printed c.in_err-begin_text.field-0.0
    (c.in_err-begin_text.ensures.left told printed))

pub returns-in_err-put_piece-clause-left : goal.returns-in_err-put_piece-clause-left
returns-in_err-put_piece-clause-left g c =
    let p = err_from_is_err_and c.from_residual-in_err-put_piece.result c.from_residual-in_err-put_piece.ensures.1 in
    rw (p.1, p.2) (λ told printed.
    leaves-then {X = Unit {0}} (begin_text c.args.name.now ∷ []) (put_piece c.args.name.now c.args.text.now ∷ [])
    (g.S.Shelf.written c.args.shelf.now) (g.S.Shelf.written c.begin_text.new.shelf) (g.S.Shelf.written c.put_piece.new.shelf)
    printed printed printed (Err c.in_err-put_piece.field-0.0) (c.in_ok-begin_text.ensures.left told printed)
    (subst (λ (text : List ℕ). Leaves {X = Unit {0}} (put_piece c.args.name.now text ∷ [])
    (on_shelf (g.S.Shelf.written c.begin_text.new.shelf) (g.S.Shelf.written c.put_piece.new.shelf) printed)
    (Err c.in_err-put_piece.field-0.0))
    c.as_slice.ensures (c.in_err-put_piece.ensures.left (c.in_ok-begin_text.ensures.tells ∙ told) printed)))

pub returns-clause-left : goal.returns-clause-left
returns-clause-left g c = λ told printed.
    leaves-then {X = Unit {0}} (begin_text c.args.name.now ∷ []) (put_piece c.args.name.now c.args.text.now ∷ [])
    (g.S.Shelf.written c.args.shelf.now) (g.S.Shelf.written c.begin_text.new.shelf) (g.S.Shelf.written c.put_piece.new.shelf)
    printed printed printed (Ok tt) (c.in_ok-begin_text.ensures.left told printed)
    (subst (λ (text : List ℕ). Leaves {X = Unit {0}} (put_piece c.args.name.now text ∷ [])
    (on_shelf (g.S.Shelf.written c.begin_text.new.shelf) (g.S.Shelf.written c.put_piece.new.shelf) printed) (Ok tt))
    c.as_slice.ensures (c.in_ok-put_piece.ensures.left (c.in_ok-begin_text.ensures.tells ∙ told) printed))
