use Rattle.std.proofs.Common.{arith, ap, sym, refl, ◌∙◌, length, ◌<◌, get_or, bit_and}
use Rattle.std.specs.Prelude.{◌&&◌}
use Rattle.std.proofs.lemmas.Bool.{and_parts}
use Rattle.design_core.specs.Valuation.{bit}
use Rattle.design_bits.specs.Masks.{has}
use Rattle.design_bits.proofs.Masks.{bit-and}
use Rattle.design_bits.proofs.Added.{adds-step}
use Rattle.design_bits.proofs.Touched.{join-more, join-all, get_or-same}
use Rattle.design_rules.proofs.tally.join_common.Goals as goal

pub loop-signal-preserved : goal.loop-signal-preserved
loop-signal-preserved c =
    let xs = c.signals-signal-items.result.now in
    let signal = get_or xs c.loop-signal.signal-index 0 in
    let below : signal < length c.loop-signal.twice = omega (arith, c.signals-signal-items.ensures.within c.loop-signal.signal-index 0 c.loop-signal-test.true, c.loop-signal.invariant.long, c.requires.long) in
    adds-step c.args.twice.now c.loop-signal.twice _ _ _ signal (bit_and (get_or c.args.once.now signal 0) c.mask.result) c.loop-signal.invariant below refl
    (λ s b inside.
    join-more xs c.loop-signal.signal-index signal s (λ q. has c.args.once.now q b && has c.args.own.now q b) (bit (bit_and (get_or c.args.once.now signal 0) c.mask.result) b) c.loop-signal-test.true
    (sym (get_or-same xs c.loop-signal.signal-index 0 c.loop-signal-test.true))
    (bit-and (get_or c.args.once.now signal 0) c.mask.result b ∙ ap (λ n. bit (get_or c.args.once.now signal 0) b && bit n b) c.mask.ensures))

pub returns : goal.returns
returns c =
    join-all c.args.twice.now _ c.args.own.now c.signals-signal-items.result.now c.loop-signal.signal-index (λ s b. has c.args.once.now s b && has c.args.own.now s b)
    c.loop-signal-test.false c.signals-signal-items.ensures.all (λ s b h. (and_parts (has c.args.once.now s b) (has c.args.own.now s b) h).1) c.loop-signal.invariant
