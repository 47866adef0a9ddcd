use Rattle.std.proofs.Common.{◌≡◌, ◌≤◌, drop, length}
use Rattle.node_map.specs.Entries.{put}
use Rattle.node_map.proofs.map.NodeMap.put.Given as goal

abbrev pub invariant-loop-left : goal.invariant-loop-left
invariant-loop-left l = record {
  most : l.left ≤ length l.entries;
  long : length l.self.now ≡ length l.initial.self.now;
  base : l.self.base ≡ l.initial.self.base;
  now : l.self.now ≡ put (drop l.left l.entries) l.initial.self.now;
}

abbrev pub decreases-loop-left : goal.decreases-loop-left
decreases-loop-left l = l.left
