use Rattle.std.proofs.Common.{take}
use Rattle.sat_core.proofs.BackLevel.{IsGreatest}
use Rattle.sat_core.proofs.analysis.Analysis.lower_level.Given as goal

abbrev pub invariant-loop-l : goal.invariant-loop-l
invariant-loop-l l = IsGreatest l.trail (take l.l-index l.l-items) l.level
