use Rattle.std.proofs.Common.{sym, arith}
use Rattle.loc_base.specs.Bits.{value_of}
use Rattle.design_core.specs.Words.{valuation_of}
use Rattle.plain_values.proofs.EvaluateStore.{word-within, signal-width, whole_later, whole_now}
use Rattle.plain_values.proofs.store.assign_whole.Goals as goal

pub write-requires-clause-within : goal.write-requires-clause-within
write-requires-clause-within c =
    word-within c.args.signals.now c.args.later.now c.args.signal _ c.requires.later (omega (arith, signal-width c.args.signals.now c.args.signal c.signal_at.result.now c.signal_at.ensures))

pub write-requires-else-is_later-clause-within : goal.write-requires-else-is_later-clause-within
write-requires-else-is_later-clause-within c =
    word-within c.args.signals.now c.args.now.now c.args.signal _ c.requires.now (omega (arith, signal-width c.args.signals.now c.args.signal c.signal_at.result.now c.signal_at.ensures))

pub returns-then-is_later-clause-value : goal.returns-then-is_later-clause-value
returns-then-is_later-clause-value c =
    whole_later c.args.signals.now (valuation_of c.args.now.now) (valuation_of c.args.later.now) (valuation_of c.write.new.words)
    c.args.signal (value_of c.args.value) c.signal_at.result.now.width c.args.is_later c.if-is_later.true
    (sym (signal-width c.args.signals.now c.args.signal c.signal_at.result.now c.signal_at.ensures)) c.write.ensures.words

pub returns-else-is_later-clause-value : goal.returns-else-is_later-clause-value
returns-else-is_later-clause-value c =
    whole_now c.args.signals.now (valuation_of c.args.now.now) (valuation_of c.args.later.now) (valuation_of c.write-else-is_later.new.words)
    c.args.signal (value_of c.args.value) c.signal_at.result.now.width c.args.is_later c.if-is_later.false
    (sym (signal-width c.args.signals.now c.args.signal c.signal_at.result.now c.signal_at.ensures)) c.write-else-is_later.ensures.words
