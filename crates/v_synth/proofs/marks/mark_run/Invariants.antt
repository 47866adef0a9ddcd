use Rattle.std.proofs.Common.{◌-◌}
use Rattle.design_core.specs.Drives.{is_among}
use Rattle.v_synth.specs.Rows.{Marked}
use Rattle.v_synth.proofs.marks.mark_run.Given as goal

abbrev pub invariant-loop-s : goal.invariant-loop-s
invariant-loop-s l = Marked l.mark l.initial.marks l.marks (is_among l.first (l.s - l.first))
