use Rattle.std.proofs.Common.{◌≡◌, drop, map}
use Rattle.v_hierarchy.specs.Views.{copied_of, copies_of}
use Rattle.v_binding.specs.Items.{bound_copies}
use Rattle.v_binding.specs.Seen.{names_in}
use Rattle.bind_scopes.specs.Views.{scopes_of}
use Rattle.v_binding.specs.Standing.{CopiesStand}
use Rattle.bind_items.specs.Grounds.{ground_of}
use Rattle.v_design.specs.Copies.{met_of}
use Rattle.v_design.proofs.item_walk.+walk.Given as goal

abbrev pub invariant-copies-loop-one : goal.invariant-copies-loop-one
invariant-copies-loop-one l = record {
  same : names_in l.walk.names ≡ names_in l.initial.walk.names;
  stand : CopiesStand (copies_of (map copied_of (drop l.one-index l.copies)));
  bound : bound_copies (ground_of l.ground) (names_in l.initial.walk.names) (scopes_of (drop l.next l.scopes)) (copies_of (map copied_of (drop l.one-index l.copies))) (met_of l.walk)
      ≡ bound_copies (ground_of l.ground) (names_in l.initial.walk.names) (scopes_of l.scopes) (copies_of (map copied_of l.copies)) (met_of l.initial.walk);
}
