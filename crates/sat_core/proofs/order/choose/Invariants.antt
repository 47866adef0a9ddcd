use Rattle.sat_core.specs.Choices.{PassedTo}
use Rattle.sat_core.proofs.order.choose.Given as goal

abbrev pub invariant-loop-place : goal.invariant-loop-place
invariant-loop-place l = record {
  passed : PassedTo l.trail l.assume l.preferred l.place;
}
