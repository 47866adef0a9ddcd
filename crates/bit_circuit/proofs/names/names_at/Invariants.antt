use Rattle.std.proofs.Common.{◌≡◌, ◌++◌, map, drop}
use Rattle.bit_circuit.specs.Indexes.{name_at}
use Rattle.bit_circuit.proofs.names.names_at.Given as goal

abbrev pub invariant-loop-i : goal.invariant-loop-i
invariant-loop-i l = map (name_at l.select l.position) l.offsets ≡ l.names ++ map (name_at l.select l.position) (drop l.i l.offsets)
