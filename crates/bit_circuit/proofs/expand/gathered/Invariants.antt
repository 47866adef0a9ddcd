use Rattle.std.proofs.Common.{◌≡◌, take}
use Rattle.bit_circuit.specs.Circuits.{words_at}
use Rattle.bit_circuit.proofs.expand.gathered.Given as goal

abbrev pub invariant-loop-i : goal.invariant-loop-i
invariant-loop-i l = l.some ≡ words_at l.words (take l.i l.numbers)
