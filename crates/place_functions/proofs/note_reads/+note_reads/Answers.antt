use Rattle.std.proofs.Common.{◌∙◌, ap, sym, ◌||◌, ap₂}
use Rattle.std.specs.List.{list_any}
use Rattle.design_core.specs.Reads.{reads}
use Rattle.design_bits.specs.Operands.{operands_read}
use Rattle.design_bits.proofs.ReadSteps.{operands_pick, operands_word, operands_unary, operands_binary, operands_choose, operands_join, operands_repeat, operands_resize}
use Rattle.place_functions.proofs.NoteSteps.{on-ok, place-both, place-named, node-noted, one-operand, each-read}
use Rattle.place_functions.proofs.note_reads.+note_reads.Goals as goal

pub note_all-loop-part-preserved : goal.note_all-loop-part-preserved
note_all-loop-part-preserved t c =
    each-read _ _ _ c.args.place (λ y s k. reads c.args.signals.now s k y) c.args.parts.now c.loop-part.part-index c.part-item.result c.loop-part-test.true c.part-item.is c.loop-part.invariant c.in_ok-note_reads.ensures

pub note_parts-returns-in-Pick : goal.note_parts-returns-in-Pick
note_parts-returns-in-Pick t c =
    let S = c.args.signals.now in
    let p = c.in-Pick in
    one-operand _ _ c.args.place S c.args.node.now p.index c.deref.result.now _ c.deref.ensures
    (λ s k. ap (operands_read S s k) p.is ∙ operands_pick S s k p.signal p.index p.offsets) c.note_reads.ensures

pub note_parts-returns-in-Word : goal.note_parts-returns-in-Word
note_parts-returns-in-Word t c =
    let S = c.args.signals.now in
    let w = c.in-Word in
    one-operand _ _ c.args.place S c.args.node.now w.index c.deref-in-Word.result.now _ c.deref-in-Word.ensures
    (λ s k. ap (operands_read S s k) w.is ∙ operands_word S s k w.first w.count w.low w.index w.from w.width) c.note_reads-in-Word.ensures

pub note_parts-returns-in-Unary : goal.note_parts-returns-in-Unary
note_parts-returns-in-Unary t c =
    let S = c.args.signals.now in
    let u = c.in-Unary in
    one-operand _ _ c.args.place S c.args.node.now u.arg c.deref-in-Unary.result.now _ c.deref-in-Unary.ensures
    (λ s k. ap (operands_read S s k) u.is ∙ operands_unary S s k u.op u.arg) c.note_reads-in-Unary.ensures

pub note_parts-returns-in-Repeat : goal.note_parts-returns-in-Repeat
note_parts-returns-in-Repeat t c =
    let S = c.args.signals.now in
    let r = c.in-Repeat in
    one-operand _ _ c.args.place S c.args.node.now r.part c.deref-in-Repeat.result.now _ c.deref-in-Repeat.ensures
    (λ s k. ap (operands_read S s k) r.is ∙ operands_repeat S s k r.times r.part) c.note_reads-in-Repeat.ensures

pub note_parts-returns-in-Resize : goal.note_parts-returns-in-Resize
note_parts-returns-in-Resize t c =
    let S = c.args.signals.now in
    let r = c.in-Resize in
    one-operand _ _ c.args.place S c.args.node.now r.arg c.deref-in-Resize.result.now _ c.deref-in-Resize.ensures
    (λ s k. ap (operands_read S s k) r.is ∙ operands_resize S s k r.arg) c.note_reads-in-Resize.ensures

pub note_parts-returns-in-Join : goal.note_parts-returns-in-Join
note_parts-returns-in-Join t c =
    let S = c.args.signals.now in
    let j = c.in-Join in
    on-ok c.note_all.result _ _
    (λ a.
    place-named _ _ c.args.place (λ s k. list_any (reads S s k) c.deref-in-Join.result.now) (λ s k. operands_read S s k c.args.node.now) a
    (λ s k. ap (list_any (reads S s k)) c.deref-in-Join.ensures ∙ sym (operands_join S s k j.parts) ∙ ap (operands_read S s k) (sym j.is)))
    c.note_all.ensures

pub note_parts-returns-in_ok-note_reads-in-Binary : goal.note_parts-returns-in_ok-note_reads-in-Binary
note_parts-returns-in_ok-note_reads-in-Binary t c =
    let S = c.args.signals.now in
    let e = c.in-Binary in
    let left = c.deref-in-Binary.result.now in
    let right = c.deref-in-Binary-2.result.now in
    on-ok c.note_reads-in-Binary-2.result _ _
    (λ a.
    place-named _ _ c.args.place (λ s k. reads S s k left || reads S s k right) (λ s k. operands_read S s k c.args.node.now)
    (place-both _ _ _ c.args.place (λ s k. reads S s k left) (λ s k. reads S s k right) c.in_ok-note_reads-in-Binary.ensures a)
    (λ s k.
    ap₂ (λ x y. reads S s k x || reads S s k y) c.deref-in-Binary.ensures c.deref-in-Binary-2.ensures
    ∙ sym (operands_binary S s k e.op e.left e.right) ∙ ap (operands_read S s k) (sym e.is)))
    c.note_reads-in-Binary-2.ensures

pub note_parts-returns-in_ok-note_reads-in-Choose-2 : goal.note_parts-returns-in_ok-note_reads-in-Choose-2
note_parts-returns-in_ok-note_reads-in-Choose-2 t c =
    let S = c.args.signals.now in
    let e = c.in-Choose in
    let test = c.deref-in-Choose.result.now in
    let on_true = c.deref-in-Choose-2.result.now in
    let on_false = c.deref-in-Choose-3.result.now in
    on-ok c.note_reads-in-Choose-3.result _ _
    (λ a.
    place-named _ _ c.args.place (λ s k. reads S s k test || (reads S s k on_true || reads S s k on_false)) (λ s k. operands_read S s k c.args.node.now)
    (place-both _ _ _ c.args.place (λ s k. reads S s k test) (λ s k. reads S s k on_true || reads S s k on_false) c.in_ok-note_reads-in-Choose.ensures
    (place-both _ _ _ c.args.place (λ s k. reads S s k on_true) (λ s k. reads S s k on_false) c.in_ok-note_reads-in-Choose-2.ensures a))
    (λ s k.
    ap (λ x. reads S s k x || (reads S s k on_true || reads S s k on_false)) c.deref-in-Choose.ensures
    ∙ ap₂ (λ x y. reads S s k e.cond || (reads S s k x || reads S s k y)) c.deref-in-Choose-2.ensures c.deref-in-Choose-3.ensures
    ∙ sym (operands_choose S s k e.cond e.yes e.no) ∙ ap (operands_read S s k) (sym e.is)))
    c.note_reads-in-Choose-3.ensures

pub note_reads-returns : goal.note_reads-returns
note_reads-returns t c =
    on-ok c.note_parts.result _ _ (λ a. node-noted _ _ _ c.args.place c.args.signals.now c.args.read.now c.in_ok-note_own.ensures a) c.note_parts.ensures
