use Rattle.std.proofs.Common.{◌≡◌, ◌≤◌, ◌++◌, drop, length}
use Rattle.vcd_waves.specs.Variables.{merged}
use Rattle.vcd_waves.proofs.variable.merged.Given as goal

abbrev pub invariant-loop-place : goal.invariant-loop-place
invariant-loop-place l = record {
  within : l.taken ≤ length l.others;
  whole : l.list.items ++ merged (drop l.place l.variables) (drop l.taken l.others) ≡ merged l.variables l.others;
}
