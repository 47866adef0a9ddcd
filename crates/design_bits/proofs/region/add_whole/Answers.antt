use Rattle.std.proofs.Common.{◌<◌, ◌≤◌, ◌∙◌, ap, arith, length, nat_lt}
use Rattle.design_core.specs.Valuation.{width_at}
use Rattle.design_bits.proofs.Added.{adds-step, whole-more}
use Rattle.design_bits.proofs.region.add_whole.Goals as goal

pub loop-signal-preserved : goal.loop-signal-preserved
loop-signal-preserved c =
    let within : c.loop-signal.signal < length c.loop-signal.set = omega (arith, c.loop-signal.invariant.long, c.loop-signal-test.true, c.min-end.ensures, c.len.ensures) in
    let ordered : c.args.first ≤ c.loop-signal.signal = omega (arith, c.loop-signal.auto, c.loop-signal-test.true) in
    adds-step c.args.set.now c.loop-signal.set c.add.new.self _ _ c.loop-signal.signal _ c.loop-signal.invariant within c.in_ok-add.ensures.ok
    (λ s b below.
    whole-more c.args.first c.loop-signal.signal s b _ (width_at c.args.signals.now) ordered
    (c.ones.ensures b below ∙ ap (nat_lt b) (c.from.ensures ∙ c.width_at.ensures)))
