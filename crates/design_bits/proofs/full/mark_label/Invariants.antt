use Rattle.std.proofs.Common.{◌&&◌, nat_lt, bit_or, ◌==◌}
use Rattle.loc_base.specs.Bits.{value_of}
use Rattle.design_core.specs.FullCase.{decided}
use Rattle.design_bits.specs.Full.{Marks}
use Rattle.design_bits.proofs.full.mark_label.Given as goal

abbrev pub invariant-loop-number : goal.invariant-loop-number
invariant-loop-number l =
    Marks l.initial.seen l.seen
    (λ n. nat_lt n l.number && (bit_or (decided l.subject.width l.subject.node n) (value_of l.label.wild) == bit_or (value_of l.word) (value_of l.label.wild)))
