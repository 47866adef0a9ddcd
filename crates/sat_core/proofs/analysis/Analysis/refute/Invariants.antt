use Rattle.std.proofs.Common.{◌≡◌, ◌≤◌, length}
use Rattle.sat_core.specs.Derivation.{Refutes}
use Rattle.sat_core.proofs.analysis.Analysis.refute.Given as goal

abbrev pub invariant-loop-place : goal.invariant-loop-place
invariant-loop-place l = record {
  within : l.place ≤ length l.trail.entries;
  size : length l.self.marked.items ≡ length l.fn.self.marked.items;
  literals : l.self.literals ≡ l.fn.self.literals;
  refutes : Refutes l.trail l.fn.self.marked.items l.self.marked.items l.fn.self.chain.items l.self.chain.items l.place;
}

abbrev pub decreases-loop-place : goal.decreases-loop-place
decreases-loop-place l = l.place
