use Rattle.std.proofs.Common.{◌≡◌, take}
use Rattle.vcd_waves.specs.Variables.{listed}
use Rattle.vcd_waves.proofs.variable.listed.Given as goal

abbrev pub invariant-loop-place : goal.invariant-loop-place
invariant-loop-place l = l.list.items ≡ listed l.design l.kind 0 (take l.place l.numbers)
