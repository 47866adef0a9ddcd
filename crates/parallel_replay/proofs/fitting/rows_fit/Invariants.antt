use Rattle.parallel_replay.specs.Fitting.{AreRowsBefore}
use Rattle.parallel_replay.proofs.fitting.rows_fit.Given as goal

abbrev pub invariant-loop-r : goal.invariant-loop-r
invariant-loop-r l = AreRowsBefore l.design l.values l.r
