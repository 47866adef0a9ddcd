use Rattle.std.proofs.Common.{◌∙◌, ap, sym, ◌||◌, ap₂}
use Rattle.std.specs.List.{list_any}
use Rattle.design_core.specs.Reads.{reads}
use Rattle.design_bits.specs.Operands.{operands_read}
use Rattle.design_bits.proofs.Added.{on-ok}
use Rattle.design_bits.proofs.ReadSteps.{operands_pick, operands_word, operands_unary, operands_binary, operands_choose, operands_join, operands_repeat, operands_resize}
use Rattle.design_bits.proofs.ReadsAdded.{adds-beside, adds-named, node-added, one-operand, each-more}
use Rattle.design_bits.proofs.reads.+reads.Goals as goal

pub add_all_reads-loop-part-preserved : goal.add_all_reads-loop-part-preserved
add_all_reads-loop-part-preserved t c =
    each-more _ _ _ _ (λ y s k. reads c.args.signals.now s k y) c.args.parts.now c.loop-part.part-index c.part-item.result c.loop-part-test.true c.part-item.is c.loop-part.invariant c.in_ok-add_reads.ensures

pub add_operands-returns-in-Pick : goal.add_operands-returns-in-Pick
add_operands-returns-in-Pick t c =
    let S = c.args.signals.now in
    let p = c.in-Pick in
    one-operand _ _ _ S c.args.node.now p.index c.deref.result.now _ c.deref.ensures
    (λ s k. ap (operands_read S s k) p.is ∙ operands_pick S s k p.signal p.index p.offsets) c.add_reads.ensures

pub add_operands-returns-in-Word : goal.add_operands-returns-in-Word
add_operands-returns-in-Word t c =
    let S = c.args.signals.now in
    let w = c.in-Word in
    one-operand _ _ _ S c.args.node.now w.index c.deref-in-Word.result.now _ c.deref-in-Word.ensures
    (λ s k. ap (operands_read S s k) w.is ∙ operands_word S s k w.first w.count w.low w.index w.from w.width) c.add_reads-in-Word.ensures

pub add_operands-returns-in-Unary : goal.add_operands-returns-in-Unary
add_operands-returns-in-Unary t c =
    let S = c.args.signals.now in
    let u = c.in-Unary in
    one-operand _ _ _ S c.args.node.now u.arg c.deref-in-Unary.result.now _ c.deref-in-Unary.ensures
    (λ s k. ap (operands_read S s k) u.is ∙ operands_unary S s k u.op u.arg) c.add_reads-in-Unary.ensures

pub add_operands-returns-in-Repeat : goal.add_operands-returns-in-Repeat
add_operands-returns-in-Repeat t c =
    let S = c.args.signals.now in
    let r = c.in-Repeat in
    one-operand _ _ _ S c.args.node.now r.part c.deref-in-Repeat.result.now _ c.deref-in-Repeat.ensures
    (λ s k. ap (operands_read S s k) r.is ∙ operands_repeat S s k r.times r.part) c.add_reads-in-Repeat.ensures

pub add_operands-returns-in-Resize : goal.add_operands-returns-in-Resize
add_operands-returns-in-Resize t c =
    let S = c.args.signals.now in
    let r = c.in-Resize in
    one-operand _ _ _ S c.args.node.now r.arg c.deref-in-Resize.result.now _ c.deref-in-Resize.ensures
    (λ s k. ap (operands_read S s k) r.is ∙ operands_resize S s k r.arg) c.add_reads-in-Resize.ensures

pub add_operands-returns-in-Join : goal.add_operands-returns-in-Join
add_operands-returns-in-Join t c =
    let S = c.args.signals.now in
    let j = c.in-Join in
    on-ok c.add_all_reads.result _ _
    (λ a.
    adds-named _ _ _ (λ s k. list_any (reads S s k) c.deref-in-Join.result.now) (λ s k. operands_read S s k c.args.node.now) a
    (λ s k _. ap (list_any (reads S s k)) c.deref-in-Join.ensures ∙ sym (operands_join S s k j.parts) ∙ ap (operands_read S s k) (sym j.is)))
    c.add_all_reads.ensures

pub add_operands-returns-in_ok-add_reads-in-Binary : goal.add_operands-returns-in_ok-add_reads-in-Binary
add_operands-returns-in_ok-add_reads-in-Binary t c =
    let S = c.args.signals.now in
    let e = c.in-Binary in
    let left = c.deref-in-Binary.result.now in
    let right = c.deref-in-Binary-2.result.now in
    on-ok c.add_reads-in-Binary-2.result _ _
    (λ a.
    adds-named _ _ _ (λ s k. reads S s k left || reads S s k right) (λ s k. operands_read S s k c.args.node.now)
    (adds-beside _ _ _ _ (λ s k. reads S s k left) (λ s k. reads S s k right) c.in_ok-add_reads-in-Binary.ensures a)
    (λ s k _.
    ap₂ (λ x y. reads S s k x || reads S s k y) c.deref-in-Binary.ensures c.deref-in-Binary-2.ensures
    ∙ sym (operands_binary S s k e.op e.left e.right) ∙ ap (operands_read S s k) (sym e.is)))
    c.add_reads-in-Binary-2.ensures

pub add_operands-returns-in_ok-add_reads-in-Choose-2 : goal.add_operands-returns-in_ok-add_reads-in-Choose-2
add_operands-returns-in_ok-add_reads-in-Choose-2 t c =
    let S = c.args.signals.now in
    let e = c.in-Choose in
    let test = c.deref-in-Choose.result.now in
    let on_true = c.deref-in-Choose-2.result.now in
    let on_false = c.deref-in-Choose-3.result.now in
    on-ok c.add_reads-in-Choose-3.result _ _
    (λ a.
    adds-named _ _ _ (λ s k. reads S s k test || (reads S s k on_true || reads S s k on_false)) (λ s k. operands_read S s k c.args.node.now)
    (adds-beside _ _ _ _ (λ s k. reads S s k test) (λ s k. reads S s k on_true || reads S s k on_false) c.in_ok-add_reads-in-Choose.ensures
    (adds-beside _ _ _ _ (λ s k. reads S s k on_true) (λ s k. reads S s k on_false) c.in_ok-add_reads-in-Choose-2.ensures a))
    (λ s k _.
    ap (λ x. reads S s k x || (reads S s k on_true || reads S s k on_false)) c.deref-in-Choose.ensures
    ∙ ap₂ (λ x y. reads S s k e.cond || (reads S s k x || reads S s k y)) c.deref-in-Choose-2.ensures c.deref-in-Choose-3.ensures
    ∙ sym (operands_choose S s k e.cond e.yes e.no) ∙ ap (operands_read S s k) (sym e.is)))
    c.add_reads-in-Choose-3.ensures

pub add_reads-returns : goal.add_reads-returns
add_reads-returns t c =
    on-ok c.add_operands.result _ _ (λ a. node-added _ _ _ _ c.args.signals.now c.own_bits.result c.args.read.now c.own_bits.ensures c.in_ok-add_region.ensures a) c.add_operands.ensures
