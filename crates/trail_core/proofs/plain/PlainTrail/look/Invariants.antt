use Rattle.std.proofs.Common.{take}
use Rattle.trail_core.specs.TrailState.{values_of}
use Rattle.trail_core.proofs.Looks.{SoFar}
use Rattle.trail_core.proofs.plain.PlainTrail.look.Given as goal

abbrev pub invariant-loop-l : goal.invariant-loop-l
invariant-loop-l l = SoFar (values_of l.self.entries) (take l.l-index l.l-items) l.unassigned
