use Rattle.std.proofs.Common.{◌≡◌, ◌≤◌, length}
use Rattle.trail_core.specs.TrailState.{values_of}
use Rattle.sat_core.specs.Derivation.{set_of, Tracks, Derives, Leaves}
use Rattle.sat_core.proofs.analysis.Analysis.shrink.Given as goal

abbrev pub invariant-loop-place : goal.invariant-loop-place
invariant-loop-place l = record {
  size : length l.self.marked.items ≡ length l.fn.self.marked.items;
  tracks : Tracks l.trail l.self.marked.items l.self.literals.items l.self.present;
  derives : Derives l.trail.clauses l.self.chain.items (set_of l.self.marked.items (values_of l.trail.entries));
  leaves : Leaves l.trail l.fn.self.marked.items l.self.marked.items;
  within : l.place ≤ length l.self.literals.items;
}

abbrev pub decreases-loop-place : goal.decreases-loop-place
decreases-loop-place l = l.place
