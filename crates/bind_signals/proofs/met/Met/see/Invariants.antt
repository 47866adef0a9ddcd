use Rattle.std.proofs.Common.{◌≡◌, map, drop}
use Rattle.v_hierarchy.specs.Views.{entry_of}
use Rattle.v_binding.specs.Names.{within}
use Rattle.v_binding.specs.Signals.{unnumbered}
use Rattle.v_binding.specs.Seen.{names_in}
use Rattle.v_binding.specs.Standing.{EntriesStand}
use Rattle.bind_signals.specs.Scopings.{scoping_of}
use Rattle.bind_signals.proofs.met.Met.see.Given as goal

abbrev pub invariant-loop-entry : goal.invariant-loop-entry
invariant-loop-entry l = record {
  stand : EntriesStand (map entry_of (drop l.entry-index l.entries));
  same : scoping_of l.self ≡ scoping_of l.initial.self;
  rest : within (map unnumbered (map entry_of (drop l.entry-index l.entries))) (names_in l.self.seen) ≡ within (map unnumbered (map entry_of l.entries)) (names_in l.initial.self.seen);
}
