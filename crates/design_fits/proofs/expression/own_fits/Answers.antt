use Rattle.std.proofs.Common.{◌∙◌, ◌*◌, ap, sym}
use Rattle.std.specs.Prelude.{Bool, ◌&&◌, ◌==◌}
use Rattle.design_core.specs.declared.expression.Typed.{Typed}
use Rattle.design_core.specs.WellFormed.{is_width, unary_fits, binary_fits, signs_fit}
use Rattle.plain_values.specs.Evaluate.{parts_sum}
use Rattle.design_fits.proofs.TestLaws.{two}
use Rattle.design_fits.proofs.OperandLaws.{own_unary, own_binary, own_choose, own_join, own_repeat}
use Rattle.design_fits.proofs.expression.own_fits.Goals as goal

pub returns-in-Unary : goal.returns-in-Unary
returns-in-Unary c =
    let e = c.args.e.now in
    rw c.in-Unary.is
    (two _ _ _ _
    (c.is_width-sized.ensures ∙ ap is_width c.from.ensures)
    (c.unary_fits.ensures ∙ ap (λ arg. unary_fits c.in-Unary.op e.width arg.width) c.deref.ensures)
    ∙ sym (own_unary c.args.signals.now e.width e.signed c.in-Unary.op c.in-Unary.arg))

pub returns-in-Binary : goal.returns-in-Binary
returns-in-Binary c =
    let e = c.args.e.now in
    let op = c.in-Binary.op in
    let test : Typed → Typed → Bool = λ left right. binary_fits op e.width left.width right.width && signs_fit op e.signed left.signed right.signed in
    rw c.in-Binary.is
    (two _ _ _ _
    (c.is_width-sized.ensures ∙ ap is_width c.from.ensures)
    (c.operator_fits.ensures ∙ ap (λ left. test left c.deref-in-Binary-2.result.now) c.deref-in-Binary.ensures ∙ ap (test c.in-Binary.left) c.deref-in-Binary-2.ensures)
    ∙ sym (own_binary c.args.signals.now e.width e.signed op c.in-Binary.left c.in-Binary.right))

pub returns-in-Choose : goal.returns-in-Choose
returns-in-Choose c =
    let e = c.args.e.now in
    rw c.in-Choose.is
    (two _ _ _ _ (ap (λ part. e.width == part.width) c.deref-in-Choose.ensures) (ap (λ part. e.width == part.width) c.deref-in-Choose-2.ensures)
    ∙ sym (own_choose c.args.signals.now e.width e.signed c.in-Choose.cond c.in-Choose.yes c.in-Choose.no))

pub returns-in-Join : goal.returns-in-Join
returns-in-Join c =
    let e = c.args.e.now in
    rw c.in-Join.is
    (two _ _ _ _
    (c.is_width-sized.ensures ∙ ap is_width c.from.ensures)
    (c.parts_fill.ensures ∙ ap (λ parts. parts_sum parts == e.width) c.deref-in-Join.ensures)
    ∙ sym (own_join c.args.signals.now e.width e.signed c.in-Join.parts))

pub returns-in-Repeat : goal.returns-in-Repeat
returns-in-Repeat c =
    let e = c.args.e.now in
    rw c.in-Repeat.is
    (two _ _ _ _
    (c.is_width-sized.ensures ∙ ap is_width c.from.ensures)
    (c.is_repeated.ensures ∙ ap (λ part. c.in-Repeat.times * part.width == e.width) c.deref-in-Repeat.ensures)
    ∙ sym (own_repeat c.args.signals.now e.width e.signed c.in-Repeat.times c.in-Repeat.part))
