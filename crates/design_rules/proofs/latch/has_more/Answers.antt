use Rattle.std.proofs.Common.{◌∙◌, ap₂, sym, get_or}
use Rattle.design_bits.specs.Masks.{exceeds}
use Rattle.design_rules.proofs.FirstLatch.{more-here, more-none}
use Rattle.design_rules.proofs.latch.has_more.Goals as goal

pub returns-then-exceeds-clause-yes : goal.returns-then-exceeds-clause-yes
returns-then-exceeds-clause-yes c =
    let i = c.loop-signal.signal-index in
    let s = get_or c.signals-signal-items.result.now i 0 in
    λ yes. more-here c.args.own.now c.args.sure.now s (c.signals-signal-items.ensures.within i 0 c.loop-signal-test.true)
    (ap₂ exceeds (sym c.mask.ensures) (sym c.mask-in-loop-signal.ensures) ∙ sym c.exceeds.ensures ∙ c.if-exceeds.true)

pub returns-clause-no : goal.returns-clause-no
returns-clause-no c =
    λ no. more-none c.args.own.now c.args.sure.now c.signals-signal-items.result.now c.loop-signal.signal-index c.loop-signal-test.false c.signals-signal-items.ensures.all c.loop-signal.invariant
