use Rattle.std.proofs.Common.{map, take}
use Rattle.vcd_reading.specs.HeaderView.{variable_of}
use Rattle.vcd_reading.specs.Found.{IsIndex}
use Rattle.vcd_reading.proofs.found.index.Given as goal

abbrev pub invariant-loop-i : goal.invariant-loop-i
invariant-loop-i l = IsIndex (map variable_of (take l.i l.variables)) l.names
