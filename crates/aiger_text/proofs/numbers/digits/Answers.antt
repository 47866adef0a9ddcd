use Rattle.std.proofs.Common.{◌<◌, arith}
use Rattle.aiger_text.proofs.NumberSteps.{few_digits}
use Rattle.aiger_text.proofs.numbers.digits.Goals as goal

pub overflow_mul-number : goal.overflow_mul-number
overflow_mul-number c =
    let low : c.loop-digit.number < 1000000000 =
    few_digits c.loop-digit.number c.loop-digit.digit-index c.loop-digit.invariant.low (omega arith) in
    omega (arith, low)

pub overflow_add-number : goal.overflow_add-number
overflow_add-number c =
    let low : c.loop-digit.number < 1000000000 =
    few_digits c.loop-digit.number c.loop-digit.digit-index c.loop-digit.invariant.low (omega arith) in
    grind (arith, low)
