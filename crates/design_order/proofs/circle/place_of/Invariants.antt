use Rattle.std.proofs.Common.{◌≡◌, take, false}
use Rattle.design_order.specs.Rows.{has}
use Rattle.design_order.proofs.circle.place_of.Given as goal

abbrev pub invariant-loop-place : goal.invariant-loop-place
invariant-loop-place l = has (take l.place l.path) l.number ≡ false
