use Rattle.std.proofs.Common.{◌≡◌}
use Rattle.v_sizes.specs.Selected.{part_offset}
use Rattle.v_sizes.specs.Sized.{offsets_to}
use Rattle.v_selects.proofs.part_select.offsets.Given as goal

abbrev pub invariant-loop-place : goal.invariant-loop-place
invariant-loop-place l = l.list ≡ offsets_to (part_offset l.part.kind l.down l.part.count) l.place
