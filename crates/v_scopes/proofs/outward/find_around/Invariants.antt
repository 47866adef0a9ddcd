use Rattle.std.proofs.Common.{◌≡◌, take}
use Rattle.std.specs.Prelude.{option_map, IfSome}
use Rattle.v_sizes.specs.Context.{IsMeaning}
use Rattle.v_scopes.specs.Outer.{around}
use Rattle.v_hierarchy.specs.Names.{find_in, meaning_of}
use Rattle.v_hierarchy.specs.Views.{standing_of}
use Rattle.v_scopes.proofs.outward.find_around.Given as goal

abbrev pub invariant-loop-frame : goal.invariant-loop-frame
invariant-loop-frame l = record {
  found : option_map standing_of l.found ≡ find_in (around (take l.frame-index l.frames)) l.name;
  stands : IfSome l.found (λ s. IsMeaning (meaning_of (standing_of s)));
}
