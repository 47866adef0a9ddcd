use Rattle.std.proofs.Common.{◌≡◌, ℕ, ◌≤◌, Bool, length, Some}
use Rattle.trail_core.specs.TrailState.{values_of}
use Rattle.sat_core.specs.SolverState.{assignment_of}
use Rattle.sat_core.proofs.engine.keep.Given as goal

abbrev pub invariant-loop-place : goal.invariant-loop-place
invariant-loop-place l = record {
  size : length l.model.items ≡ l.trail.vars;
  values : (v : ℕ) (b : Bool) → 1 ≤ v → v ≤ l.place → values_of l.trail.entries v ≡ Some b → assignment_of l.model.items v ≡ b;
}
