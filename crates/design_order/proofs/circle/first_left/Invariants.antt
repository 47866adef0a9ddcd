use Rattle.std.proofs.Common.{◌≡◌, take, slice_index_or, false}
use Rattle.design_order.specs.Rows.{left}
use Rattle.design_order.proofs.circle.first_left.Given as goal

abbrev pub invariant-loop-number : goal.invariant-loop-number
invariant-loop-number l = left (λ k. slice_index_or l.taken k false) (take l.number-index l.row) ≡ 0
