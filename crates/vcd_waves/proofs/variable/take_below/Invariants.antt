use Rattle.std.proofs.Common.{◌≡◌, List, ◌++◌, drop}
use Rattle.vcd_waves.specs.declared.variable.Variable.{Variable}
use Rattle.vcd_waves.specs.Variables.{placed_among}
use Rattle.vcd_waves.proofs.variable.take_below.Given as goal

abbrev pub invariant-loop-at : goal.invariant-loop-at
invariant-loop-at l =
    (behind : List Variable → List Variable)
    → l.fn.list.items ++ placed_among l.variable behind (drop l.from l.others) ≡ l.list.items ++ placed_among l.variable behind (drop l.at l.others)
