use Rattle.std.specs.Prelude.{IfSome}
use Rattle.std.proofs.Common.{take}
use Rattle.trail_core.specs.Values.{IsVariable}
use Rattle.trail_core.specs.Visits.{HighestGives}
use Rattle.trail_core.proofs.watch.highest.Given as goal

abbrev pub invariant-loop-l : goal.invariant-loop-l
invariant-loop-l l = record {
  known : IfSome l.found (λ m. IsVariable l.fn.trail.vars m.var);
  highest : HighestGives l.fn.trail.entries (take l.l-index l.l-items) l.fn.apart l.found;
}
