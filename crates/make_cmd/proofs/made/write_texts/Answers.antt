use Rattle.std.proofs.Common.{◌∙◌}
use Rattle.std.proofs.lemmas.Result.{err_from_is_err_and}
use Rattle.write_order.proofs.Carried.{leaves-then}
use Rattle.make_cmd.specs.Shelves.{text_writes}
use Rattle.make_cmd.proofs.Texts.{error-within}
use Rattle.make_cmd.proofs.made.write_texts.Goals as goal

pub returns-in_err-write_text-clause-left : goal.returns-in_err-write_text-clause-left
returns-in_err-write_text-clause-left g c =
    let texts = c.args.texts.now in
    let p = err_from_is_err_and c.from_residual.result c.from_residual.ensures.1 in
    rw (p.1, p.2) (λ told printed.
    error-within (text_writes texts.design_name.now texts.design) (text_writes texts.trace_name.now texts.trace)
    (g.S.Shelf.written c.args.shelf.now) (g.S.Shelf.written c.write_text.new.shelf) printed c.in_err-write_text.field-0.0
    (c.in_err-write_text.ensures.left told printed))

pub returns-clause-left : goal.returns-clause-left
returns-clause-left g c = λ told printed.
    let texts = c.args.texts.now in
    leaves-then {X = Unit {0}} (text_writes texts.design_name.now texts.design) (text_writes texts.trace_name.now texts.trace)
    (g.S.Shelf.written c.args.shelf.now) (g.S.Shelf.written c.write_text.new.shelf) (g.S.Shelf.written c.write_text-2.new.shelf)
    printed printed printed c.write_text-2.result (c.in_ok-write_text.ensures.left told printed)
    (c.write_text-2.ensures.left (c.in_ok-write_text.ensures.tells ∙ told) printed)
