use Rattle.std.proofs.Common.{◌≡◌, ℕ, ◌≤◌, true}
use Rattle.std.specs.Prelude.{is_some}
use Rattle.trail_core.specs.TrailState.{values_of}
use Rattle.sat_core.proofs.ranking.first_free.Given as goal

abbrev pub invariant-loop-place : goal.invariant-loop-place
invariant-loop-place l = record {
  end : l.place-end ≡ l.trail.vars;
  valued : (v : ℕ) → 1 ≤ v → v ≤ l.place → is_some (values_of l.trail.entries v) ≡ true;
}
