use Rattle.std.proofs.Common.{◌≡◌, ◌≤◌, ◌-◌}
use Rattle.std.specs.List.{range_with_len}
use Rattle.aiger_design.proofs.design.numbers.Given as goal

abbrev pub invariant-loop-number : goal.invariant-loop-number
invariant-loop-number l = record {
  made : l.numbers.items ≡ range_with_len l.from (l.number - l.from);
  few : l.number - l.from ≤ l.to - l.from;
}
