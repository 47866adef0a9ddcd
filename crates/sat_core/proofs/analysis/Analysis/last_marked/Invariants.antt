use Rattle.std.proofs.Common.{◌≤◌, length}
use Rattle.sat_core.specs.Derivation.{Resolved}
use Rattle.sat_core.proofs.analysis.Analysis.last_marked.Given as goal

abbrev pub invariant-loop-l : goal.invariant-loop-l
invariant-loop-l l = record {
  resolved : Resolved l.trail l.self.marked.items l.self.literals.items l.self.chain.items l.self.present l.place;
  within : l.place ≤ length l.trail.entries;
}

abbrev pub decreases-loop-l : goal.decreases-loop-l
decreases-loop-l l = l.place
