use Rattle.std.proofs.Common.{◌<◌, ◌≤◌, ◌^◌, arith, get_or, length, rules}
use Rattle.design_bits.proofs.Added.{adds-step, region-more}
use Rattle.design_bits.proofs.region.add_region.Goals as goal

pub loop-signal-preserved : goal.loop-signal-preserved
loop-signal-preserved c =
    let within : c.loop-signal.signal < length c.loop-signal.set = omega (arith, c.loop-signal.invariant.long, c.loop-signal-test.true, c.min-end.ensures, c.len.ensures) in
    let ordered : c.args.region.first ≤ c.loop-signal.signal = omega (arith, c.loop-signal.auto, c.loop-signal-test.true) in
    let fits : get_or c.args.sure.now c.loop-signal.signal 0 < 2 ^ 128 = search rules in
    adds-step c.args.set.now c.loop-signal.set c.add.new.self _ _ c.loop-signal.signal _ c.loop-signal.invariant within c.in_ok-add.ensures.ok
    (λ s b below. region-more c.args.region.first c.loop-signal.signal c.args.region.mask s b c.args.sure.now ordered below fits)
