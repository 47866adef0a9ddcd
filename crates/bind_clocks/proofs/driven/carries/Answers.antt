use Rattle.std.proofs.Common.{◌∙◌, ap, sym, get_or}
use Rattle.design_core.specs.Valuation.{bit}
use Rattle.bind_clocks.proofs.ReadLaws.{read-here, read-none}
use Rattle.bind_clocks.proofs.driven.carries.Goals as goal

pub returns-then-has : goal.returns-then-has
returns-then-has c =
    let s = get_or c.signals-signal-items.result.now c.loop-signal.signal-index 0 in
    sym
    (read-here c.args.set.now c.args.roots.now c.args.input s (ap (λ m. bit m 0) (sym c.mask.ensures) ∙ sym c.is_odd.ensures ∙ c.if-is_odd.true)
    (sym c.has.ensures ∙ c.if-has.true))

pub returns : goal.returns
returns c =
    sym
    (read-none c.args.set.now c.args.roots.now c.args.input c.signals-signal-items.result.now c.loop-signal.signal-index c.loop-signal-test.false
    c.signals-signal-items.ensures.all c.loop-signal.invariant)
