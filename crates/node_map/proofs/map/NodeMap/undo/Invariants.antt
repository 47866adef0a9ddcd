use Rattle.std.proofs.Common.{◌≡◌, length}
use Rattle.node_map.specs.Entries.{put, AreWithin}
use Rattle.node_map.proofs.map.NodeMap.undo.Given as goal

abbrev pub invariant-loop-entry : goal.invariant-loop-entry
invariant-loop-entry l = record {
  within : AreWithin (length l.self-inside.nodes) l.self-inside.replaced;
  is : put l.self-inside.replaced l.self-inside.nodes ≡ put l.initial.self-inside.replaced l.initial.self-inside.nodes;
}

abbrev pub decreases-loop-entry : goal.decreases-loop-entry
decreases-loop-entry l = length l.self-inside.replaced
