use Rattle.std.proofs.Common.{◌≡◌, ◌++◌, map, drop}
use Rattle.v_hierarchy.specs.Views.{entry_of}
use Rattle.v_binding.specs.Signals.{fixed_all}
use Rattle.v_binding.specs.Held.{known_of}
use Rattle.v_binding.specs.Standing.{EntriesStand}
use Rattle.bind_signals.proofs.met.fixed_scope.Given as goal

abbrev pub invariant-loop-entry : goal.invariant-loop-entry
invariant-loop-entry l = record {
  stand : EntriesStand (map entry_of (drop l.entry-index l.entries));
  rest : map known_of l.names ++ fixed_all (map entry_of (drop l.entry-index l.entries)) ≡ fixed_all (map entry_of l.entries);
}
