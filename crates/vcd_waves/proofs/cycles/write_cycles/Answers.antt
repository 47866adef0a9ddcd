use Rattle.vcd_waves.proofs.LineSteps.{cycle_next}
use Rattle.vcd_waves.proofs.cycles.write_cycles.Goals as goal

pub loop-t-preserved : goal.loop-t-preserved
loop-t-preserved c =
    cycle_next c.args.wave.now c.args.variables.now c.loop-t.t c.args.text.now c.loop-t.text c.write_cycle.new.text c.loop-t.invariant c.in_ok-write_cycle.ensures
