use Rattle.std.proofs.Common.{◌≡◌, ◌++◌, take}
use Rattle.node_map.specs.Entries.{signals_of}
use Rattle.node_map.proofs.pair.add_signals.Given as goal

abbrev pub invariant-loop-i : goal.invariant-loop-i
invariant-loop-i l = l.signals.items ≡ l.initial.signals.items ++ signals_of (take l.i l.entries)
