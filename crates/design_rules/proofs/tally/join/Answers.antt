use Rattle.std.proofs.Common.{arith, ap, sym, refl, length, ◌<◌, get_or}
use Rattle.design_core.specs.Valuation.{bit}
use Rattle.design_bits.specs.Masks.{has}
use Rattle.design_bits.proofs.Added.{adds-step}
use Rattle.design_bits.proofs.Touched.{join-more, join-all, get_or-same}
use Rattle.design_rules.proofs.tally.join.Goals as goal

pub loop-signal-preserved : goal.loop-signal-preserved
loop-signal-preserved c =
    let xs = c.signals-signal-items.result.now in
    let signal = get_or xs c.loop-signal.signal-index 0 in
    let below : signal < length c.loop-signal.table = omega (arith, c.signals-signal-items.ensures.within c.loop-signal.signal-index 0 c.loop-signal-test.true, c.loop-signal.invariant.long, c.requires) in
    adds-step c.args.table.now c.loop-signal.table _ _ _ signal c.mask.result c.loop-signal.invariant below refl
    (λ s b inside.
    join-more xs c.loop-signal.signal-index signal s (λ q. has c.args.own.now q b) (bit c.mask.result b) c.loop-signal-test.true
    (sym (get_or-same xs c.loop-signal.signal-index 0 c.loop-signal-test.true)) (ap (λ n. bit n b) c.mask.ensures))

pub returns : goal.returns
returns c =
    join-all c.args.table.now _ c.args.own.now c.signals-signal-items.result.now c.loop-signal.signal-index (λ s b. has c.args.own.now s b)
    c.loop-signal-test.false c.signals-signal-items.ensures.all (λ s b h. h) c.loop-signal.invariant
