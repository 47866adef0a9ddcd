use Rattle.std.proofs.Common.{take}
use Rattle.design_core.specs.Works.{IsWithin}
use Rattle.plain_list.proofs.subsets.is_within.Given as goal

abbrev pub invariant-loop-i : goal.invariant-loop-i
invariant-loop-i l = IsWithin (take l.i l.inner) l.outer
