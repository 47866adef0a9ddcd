use Rattle.std.proofs.Common.{◌≡◌, map, drop}
use Rattle.v_hierarchy.specs.Views.{copied_of, copies_of}
use Rattle.v_binding.specs.Standing.{CopiesStand}
use Rattle.bind_signals.specs.LoopNames.{listed, with_copies}
use Rattle.bind_signals.proofs.looped.+copies.Given as goal

abbrev pub invariant-add_copies-loop-copied : goal.invariant-add_copies-loop-copied
invariant-add_copies-loop-copied l = record {
  stand : CopiesStand (copies_of (map copied_of (drop l.copied-index l.copies)));
  rest : with_copies (copies_of (map copied_of (drop l.copied-index l.copies))) (listed l.names) ≡ with_copies (copies_of (map copied_of l.copies)) (listed l.fn.names);
}
