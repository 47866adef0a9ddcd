use Rattle.std.proofs.Common.{take, length}
use Rattle.std.specs.List.{list_any}
use Rattle.design_core.specs.Reads.{part_assigns}
use Rattle.design_bits.specs.Listed.{Lists}
use Rattle.design_bits.proofs.listed.parts_bits.Given as goal

abbrev pub invariant-loop-part : goal.invariant-loop-part
invariant-loop-part l = Lists (length l.signals) l.list.items (λ s b. list_any (λ part. part_assigns l.signals s b part) (take l.part-index l.parts))
