use Rattle.std.proofs.Common.{◌≡◌, ◌==◌, ◌&&◌, arith, ◌∙◌, ap, length, nat_lt, slice_index, false, replicate}
use Rattle.design_order.proofs.RunningLaws.{begin-running}
use Rattle.design_order.proofs.least.begin.Goals as goal

pub returns : goal.returns
returns c =
    let all : c.loop-i.i ≡ length c.args.needs.now = omega (arith, c.loop-i-test.false, c.len-i-end.ensures, c.loop-i.auto.i-end) in
    begin-running c.args.needs.now _ c.new.ensures.items
    (c.in_ok-taken.ensures.items_if_clones_equal (λ y e. e) ∙ ap (λ n. replicate n false) c.len.ensures)
    (omega (arith, c.loop-i.invariant.0, c.loop-i.counts.ok.0, all))
    (λ k below. c.loop-i.invariant.1 k (omega (arith, below, all)))
    (λ k. c.loop-i.invariant.2 k ∙ ap (λ n. nat_lt k n && slice_index c.loop-i.counts.items k == 0) all)
