use Rattle.bit_circuit.proofs.CircuitLaws.{circuit-ordered, outputs-mean, next-mean}
use Rattle.bit_circuit.proofs.laws.circuit_means.Goals as goal

pub returns : goal.returns
returns g c = record {
  ordered = circuit-ordered g.of c.requires.0 c.requires.1;
  outputs = outputs-mean g.of c.requires.0 c.requires.1;
  next = next-mean g.of c.requires.0 c.requires.1;
}
