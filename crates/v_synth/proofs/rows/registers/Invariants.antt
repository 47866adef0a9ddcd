use Rattle.v_synth.specs.Clocked.{register_mask}
use Rattle.v_synth.proofs.RowSteps.{RowSoFar}
use Rattle.v_synth.proofs.rows.registers.Given as goal

abbrev pub invariant-loop-s : goal.invariant-loop-s
invariant-loop-s l = RowSoFar (register_mask l.design) l.row l.s
