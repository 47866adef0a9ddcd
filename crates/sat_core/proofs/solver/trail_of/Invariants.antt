use Rattle.std.proofs.Common.{◌≡◌, [], take}
use Rattle.trail_core.specs.TrailState.{IsTrail}
use Rattle.sat_core.proofs.solver.trail_of.Given as goal

abbrev pub invariant-loop-place : goal.invariant-loop-place
invariant-loop-place l = record {
  state : l.trail ≡ record { vars = l.form.vars; clauses = take l.place l.form.clauses; entries = []; level = 0 };
  trail : IsTrail l.trail;
}
