use Rattle.std.proofs.Common.{◌≡◌, ◌-◌, ◌++◌}
use Rattle.bit_circuit.specs.Wires.{constant_bits}
use Rattle.unroller.specs.Unrolls.{constant_word}
use Rattle.unroller.proofs.unrolling.constant_word.Given as goal

abbrev pub invariant-loop-bit : goal.invariant-loop-bit
invariant-loop-bit l = constant_word l.fn.word ≡ l.literals ++ constant_bits (l.fn.word.width - l.bit) l.rest
