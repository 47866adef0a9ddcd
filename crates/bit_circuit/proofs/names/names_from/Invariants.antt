use Rattle.std.proofs.Common.{◌≡◌, ◌++◌, ◌-◌}
use Rattle.bit_circuit.specs.Indexes.{names_from}
use Rattle.bit_circuit.proofs.names.names_from.Given as goal

abbrev pub invariant-loop-i : goal.invariant-loop-i
invariant-loop-i l = record {
  counts : l.position ≡ l.i;
  rest : names_from l.select l.offset 0 l.count ≡ l.names ++ names_from l.select l.offset l.position (l.count - l.position);
}
