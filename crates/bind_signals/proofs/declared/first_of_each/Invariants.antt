use Rattle.std.proofs.Common.{◌≡◌, map, drop}
use Rattle.v_hierarchy.specs.Frames.{names_of}
use Rattle.v_hierarchy.specs.Views.{entry_of}
use Rattle.v_binding.specs.Standing.{EntriesStand}
use Rattle.bind_signals.specs.Firsts.{firsts, firsts_behind}
use Rattle.bind_signals.proofs.declared.first_of_each.Given as goal

abbrev pub invariant-loop-entry : goal.invariant-loop-entry
invariant-loop-entry l = record {
  stand : EntriesStand (map entry_of (drop l.entry-index l.entries));
  rest : firsts_behind (names_of l.frame) (map entry_of (drop l.entry-index l.entries)) ≡ firsts (map entry_of l.entries);
}
