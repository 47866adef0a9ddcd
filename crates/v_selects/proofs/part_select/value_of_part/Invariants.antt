use Rattle.std.proofs.Common.{◌≡◌, ◌+ℤ◌}
use Rattle.loc_base.specs.Bits.{width_of, value_of}
use Rattle.design_core.specs.Valuation.{bit, number}
use Rattle.v_selects.specs.Integer.{whole}
use Rattle.v_sizes.specs.Selected.{descends, part_offset, bit_at_index}
use Rattle.v_selects.proofs.part_select.value_of_part.Given as goal

abbrev pub invariant-loop-place : goal.invariant-loop-place
invariant-loop-place l =
    l.number ≡ number l.place (λ b. bit_at_index (bit (value_of l.word)) (width_of l.word) l.bounds.left l.bounds.right (whole l.part.base +ℤ part_offset l.part.kind (descends l.bounds.left l.bounds.right) l.part.count b))
