use Rattle.std.proofs.Common.{arith}
use Rattle.cycle_sim.proofs.Collecting.{signal-added, signal-missing}
use Rattle.cycle_sim.proofs.collect.add_signal.Goals as goal

pub returns-then-s-signals : goal.returns-then-s-signals
returns-then-s-signals c fits =
    signal-missing c.args.signals.now c.args.row.now.items c.args.s c.args.part.now fits (omega (arith, c.if-s-signals.true))

pub returns : goal.returns
returns c fits =
    rw c.in_ok-push.ensures.items
    (signal-added c.args.signals.now c.args.row.now.items c.args.s c.args.part.now c.part_bits-bits.result fits
    (omega (arith, c.if-s-signals.false)) c.part_bits-bits.ensures.width c.part_bits-bits.ensures.value)
