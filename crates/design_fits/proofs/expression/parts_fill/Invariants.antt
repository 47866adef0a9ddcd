use Rattle.std.proofs.Common.{◌≡◌, ◌+◌, drop}
use Rattle.plain_values.specs.Evaluate.{parts_sum}
use Rattle.design_fits.proofs.expression.parts_fill.Given as goal

abbrev pub invariant-loop-part : goal.invariant-loop-part
invariant-loop-part l = parts_sum l.parts + l.left ≡ parts_sum (drop l.part-index l.parts) + l.width
