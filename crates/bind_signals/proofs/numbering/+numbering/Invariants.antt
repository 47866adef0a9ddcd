use Rattle.std.proofs.Common.{◌≡◌, map, drop}
use Rattle.v_hierarchy.specs.Views.{copied_of, copies_of}
use Rattle.v_binding.specs.Signals.{numbered}
use Rattle.v_binding.specs.Seen.{names_in}
use Rattle.v_binding.specs.Standing.{CopiesStand}
use Rattle.bind_signals.specs.Scopings.{scoping_of}
use Rattle.bind_signals.specs.Grounds.{ground_in}
use Rattle.bind_signals.proofs.numbering.+numbering.Given as goal

abbrev pub invariant-number_copies-loop-copied : goal.invariant-number_copies-loop-copied
invariant-number_copies-loop-copied l = record {
  stand : CopiesStand (copies_of (map copied_of (drop l.copied-index l.copies)));
  seen : names_in l.met.seen ≡ names_in l.fn.met.seen;
  rest : numbered (ground_in l.ground (names_in l.fn.met.seen)) (copies_of (map copied_of (drop l.copied-index l.copies))) (scoping_of l.met)
      ≡ numbered (ground_in l.ground (names_in l.fn.met.seen)) (copies_of (map copied_of l.copies)) (scoping_of l.fn.met);
}
