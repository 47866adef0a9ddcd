use Rattle.std.proofs.Common.{◌≡◌, length}
use Rattle.trail_core.specs.TrailState.{IsTrail}
use Rattle.sat_core.proofs.engine.suppose.Given as goal

abbrev pub invariant-loop-place : goal.invariant-loop-place
invariant-loop-place l = record {
  trail : IsTrail l.trail;
  vars : l.trail.vars ≡ l.fn.trail.vars;
  clauses : l.trail.clauses ≡ l.fn.trail.clauses;
  end : l.place-end ≡ length l.literals;
}
