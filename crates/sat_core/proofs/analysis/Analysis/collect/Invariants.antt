use Rattle.std.proofs.Common.{◌≡◌, ◌++◌, take}
use Rattle.sat_core.specs.Derivation.{opposites_of}
use Rattle.sat_core.proofs.analysis.Analysis.collect.Given as goal

abbrev pub invariant-loop-place : goal.invariant-loop-place
invariant-loop-place l = record {
  set : l.self.marked ≡ l.fn.self.marked;
  chain : l.self.chain ≡ l.fn.self.chain;
  literals : l.self.literals.items ≡ l.fn.self.literals.items ++ opposites_of l.fn.self.marked.items (take l.place l.trail.entries);
}
