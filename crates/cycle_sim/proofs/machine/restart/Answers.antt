use Rattle.std.proofs.Common.{arith}
use Rattle.cycle_sim.proofs.Filling.{restart-next, restart-all}
use Rattle.cycle_sim.proofs.machine.restart.Goals as goal

pub loop-k-preserved : goal.loop-k-preserved
loop-k-preserved c =
    restart-next c.args.signals.now c.args.words.now c.loop-k.words c.loop-k.k c.signal_at.result.now c.requires.signals
    c.requires.words c.loop-k.invariant
    (omega (arith, c.loop-k-test.true, c.loop-k.auto.words)) c.signal_at.ensures

pub returns-clause-value : goal.returns-clause-value
returns-clause-value c =
    restart-all c.args.signals.now c.args.words.now c.loop-k.words c.loop-k.k c.requires.words c.loop-k.invariant
    (omega (arith, c.loop-k-test.false, c.loop-k.auto.words))
