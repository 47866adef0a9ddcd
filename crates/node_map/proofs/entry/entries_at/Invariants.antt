use Rattle.std.proofs.Common.{◌≡◌, map, take}
use Rattle.node_map.specs.Entries.{entry_at}
use Rattle.node_map.proofs.entry.entries_at.Given as goal

abbrev pub invariant-loop-i : goal.invariant-loop-i
invariant-loop-i l = l.entries ≡ map (entry_at l.nodes) (take l.i l.signals)
