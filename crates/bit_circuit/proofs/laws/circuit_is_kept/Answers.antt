use Rattle.bit_circuit.proofs.CircuitKept.{circuit-kept, free-of}
use Rattle.bit_circuit.proofs.laws.circuit_is_kept.Goals as goal

pub returns : goal.returns
returns g c = record { kept = circuit-kept g.net c.requires; frees = free-of g.net c.requires }
