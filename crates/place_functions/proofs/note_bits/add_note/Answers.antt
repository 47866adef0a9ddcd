use Rattle.std.proofs.Common.{arith}
use Rattle.place_functions.proofs.BitSteps.{signal-more, signal-wide, note-end}
use Rattle.place_functions.proofs.note_bits.add_note.Goals as goal

pub loop-signal-preserved : goal.loop-signal-preserved
loop-signal-preserved c =
    signal-more _ _ _ c.args.signals.now c.args.note.now c.loop-signal.signal _ (omega arith)
    (signal-wide c.args.signals.now c.loop-signal.signal c.index-signals-signal.result (omega (arith, c.end_of-end.ensures.within)) c.index-signals-signal.is)
    c.loop-signal.invariant c.in_ok-add_signal.ensures

pub returns : goal.returns
returns c =
    note-end _ _ c.args.signals.now c.args.note.now c.loop-signal.signal c.end_of-end.result (omega arith) c.end_of-end.ensures.among
    c.loop-signal.invariant
