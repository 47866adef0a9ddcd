use Rattle.std.proofs.Common.{take}
use Rattle.std.specs.List.{AllZip}
use Rattle.sat_core.specs.Tracing.{IsDerivedFor, IsIdle}
use Rattle.sat_core.proofs.tracing.explain_all.Given as goal

abbrev pub invariant-loop-var : goal.invariant-loop-var
invariant-loop-var l = record {
  idle : IsIdle l.trail l.tracing;
  steps : AllZip (IsDerivedFor l.trail) (take l.var-index l.vars) l.log;
}
