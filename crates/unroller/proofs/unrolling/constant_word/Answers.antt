use Rattle.std.proofs.Common.{sym, ◌∙◌, arith}
use Rattle.bit_circuit.proofs.WireSteps.{constant-end}
use Rattle.unroller.proofs.unrolling.constant_word.Goals as goal

pub returns : goal.returns
returns c =
    sym (c.loop-bit.invariant ∙ constant-end c.loop-bit.literals c.args.word.width c.loop-bit.bit c.loop-bit.rest (omega arith))
