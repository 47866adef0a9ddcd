use Rattle.std.proofs.Common.{◌∙◌, ap, sym}
use Rattle.std.specs.List.{list_all}
use Rattle.design_core.specs.WellFormed.{typed_fits}
use Rattle.design_fits.proofs.TestLaws.{two, three}
use Rattle.design_fits.proofs.OperandLaws.{node-splits, operands_pick, operands_word, operands_unary, operands_binary, operands_choose, operands_join, operands_repeat, operands_resize}
use Rattle.design_fits.proofs.expression.+typed.Goals as goal

pub typed_fits-returns : goal.typed_fits-returns
typed_fits-returns t c =
    let e = c.args.e.now in
    two _ _ _ _ c.own_fits.ensures c.operands_fit.ensures ∙ sym (node-splits c.args.signals.now e.width e.signed e.node)

pub operands_fit-returns-in-Pick : goal.operands_fit-returns-in-Pick
operands_fit-returns-in-Pick t c =
    let S = c.args.signals.now in
    rw c.in-Pick.is (c.typed_fits.ensures ∙ ap (typed_fits S) c.deref.ensures ∙ sym (operands_pick S c.in-Pick.signal c.in-Pick.index c.in-Pick.offsets))

pub operands_fit-returns-in-Word : goal.operands_fit-returns-in-Word
operands_fit-returns-in-Word t c =
    let S = c.args.signals.now in
    let w = c.in-Word in
    rw c.in-Word.is
    (c.typed_fits-in-Word.ensures ∙ ap (typed_fits S) c.deref-in-Word.ensures
    ∙ sym (operands_word S c.in-Word.first c.in-Word.count c.in-Word.low c.in-Word.index c.in-Word.from c.in-Word.width))

pub operands_fit-returns-in-Unary : goal.operands_fit-returns-in-Unary
operands_fit-returns-in-Unary t c =
    let S = c.args.signals.now in
    rw c.in-Unary.is (c.typed_fits-in-Unary.ensures ∙ ap (typed_fits S) c.deref-in-Unary.ensures ∙ sym (operands_unary S c.in-Unary.op c.in-Unary.arg))

pub operands_fit-returns-in-Binary : goal.operands_fit-returns-in-Binary
operands_fit-returns-in-Binary t c =
    let S = c.args.signals.now in
    rw c.in-Binary.is
    (two _ _ _ _
    (c.typed_fits-in-Binary.ensures ∙ ap (typed_fits S) c.deref-in-Binary.ensures)
    (c.typed_fits-in-Binary-2.ensures ∙ ap (typed_fits S) c.deref-in-Binary-2.ensures)
    ∙ sym (operands_binary S c.in-Binary.op c.in-Binary.left c.in-Binary.right))

pub operands_fit-returns-in-Choose : goal.operands_fit-returns-in-Choose
operands_fit-returns-in-Choose t c =
    let S = c.args.signals.now in
    rw c.in-Choose.is
    (three _ _ _ _ _ _
    (c.typed_fits-in-Choose.ensures ∙ ap (typed_fits S) c.deref-in-Choose.ensures)
    (c.typed_fits-in-Choose-2.ensures ∙ ap (typed_fits S) c.deref-in-Choose-2.ensures)
    (c.typed_fits-in-Choose-3.ensures ∙ ap (typed_fits S) c.deref-in-Choose-3.ensures)
    ∙ sym (operands_choose S c.in-Choose.cond c.in-Choose.yes c.in-Choose.no))

pub operands_fit-returns-in-Join : goal.operands_fit-returns-in-Join
operands_fit-returns-in-Join t c =
    let S = c.args.signals.now in
    rw c.in-Join.is (c.all_fit.ensures ∙ ap (list_all (typed_fits S)) c.deref-in-Join.ensures ∙ sym (operands_join S c.in-Join.parts))

pub operands_fit-returns-in-Repeat : goal.operands_fit-returns-in-Repeat
operands_fit-returns-in-Repeat t c =
    let S = c.args.signals.now in
    rw c.in-Repeat.is (c.typed_fits-in-Repeat.ensures ∙ ap (typed_fits S) c.deref-in-Repeat.ensures ∙ sym (operands_repeat S c.in-Repeat.times c.in-Repeat.part))

pub operands_fit-returns-in-Resize : goal.operands_fit-returns-in-Resize
operands_fit-returns-in-Resize t c =
    let S = c.args.signals.now in
    rw c.in-Resize.is (c.typed_fits-in-Resize.ensures ∙ ap (typed_fits S) c.deref-in-Resize.ensures ∙ sym (operands_resize S c.in-Resize.arg))
