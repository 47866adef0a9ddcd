use Rattle.std.proofs.Common.{◌≡◌, ◌≢◌, true, take}
use Rattle.clause_base.specs.declared.literal.Lit.{Lit}
use Rattle.clause_base.specs.Literal.{has}
use Rattle.trail_core.specs.Values.{IsFalseIn}
use Rattle.trail_core.specs.TrailState.{values_of}
use Rattle.trail_core.proofs.visit.replacement.Given as goal

abbrev pub invariant-loop-l : goal.invariant-loop-l
invariant-loop-l l = (m : Lit) → has (take l.l-index l.l-items) m ≡ true → m.var ≢ l.fn.other.var → IsFalseIn (values_of l.fn.trail.entries) m
