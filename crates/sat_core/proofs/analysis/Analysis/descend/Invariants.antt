use Rattle.std.proofs.Common.{◌≡◌, ◌≤◌, length}
use Rattle.sat_core.specs.Derivation.{Resolved}
use Rattle.sat_core.proofs.analysis.Analysis.descend.Given as goal

abbrev pub invariant-loop-self : goal.invariant-loop-self
invariant-loop-self l = record {
  size : length l.self.marked.items ≡ length l.fn.self.marked.items;
  resolved : Resolved l.trail l.self.marked.items l.self.literals.items l.self.chain.items l.self.present l.place;
  within : l.place ≤ length l.trail.entries;
}

abbrev pub decreases-loop-self : goal.decreases-loop-self
decreases-loop-self l = l.place
