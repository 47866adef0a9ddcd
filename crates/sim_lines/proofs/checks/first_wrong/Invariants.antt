use Rattle.cycle_sim.specs.Replaying.{RightBefore}
use Rattle.cycle_sim.specs.Simulator.{held_by}
use Rattle.sim_lines.proofs.checks.first_wrong.Given as goal

abbrev pub invariant-loop-i : goal.invariant-loop-i
invariant-loop-i l = RightBefore l.design l.expected (held_by l.sim).values l.i
