use Rattle.std.proofs.Common.{◌≡◌, ◌-◌}
use Rattle.v_sizes.specs.Operations.{logarithm_from, ceiling_of_logarithm}
use Rattle.v_sizes.proofs.power.logarithm.Given as goal

abbrev pub invariant-loop-bits : goal.invariant-loop-bits
invariant-loop-bits l = logarithm_from (128 - l.bits) l.bits l.number ≡ ceiling_of_logarithm l.number
