use Rattle.std.proofs.Common.{◌<◌, arith}
use Rattle.vcd_words.proofs.TimeSteps.{few_digits}
use Rattle.vcd_words.proofs.times.read_time.Goals as goal

pub overflow_mul-time : goal.overflow_mul-time
overflow_mul-time c =
    let low : c.loop-digit.time < 100000000000000000 =
    few_digits c.loop-digit.time c.loop-digit.digit-index c.loop-digit.invariant.low (omega (arith, c.loop-digit-test.true, c.if-word-gt18.false)) in
    omega (arith, low)

pub overflow_add-time : goal.overflow_add-time
overflow_add-time c =
    let low : c.loop-digit.time < 100000000000000000 =
    few_digits c.loop-digit.time c.loop-digit.digit-index c.loop-digit.invariant.low (omega (arith, c.loop-digit-test.true, c.if-word-gt18.false)) in
    grind (arith, low)
