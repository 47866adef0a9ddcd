use Rattle.std.proofs.Common.{take}
use Rattle.sat_core.proofs.TakingIn.{TakesIn}
use Rattle.sat_core.proofs.analysis.Analysis.take_in.Given as goal

abbrev pub invariant-loop-l : goal.invariant-loop-l
invariant-loop-l l = TakesIn l.fn.trail l.fn.self l.self (take l.l-index l.literals) l.skip
