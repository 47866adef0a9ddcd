use Rattle.std.proofs.Common.{◌≡◌, drop}
use Rattle.v_selects.specs.Named.{picked_faults}
use Rattle.v_selects.proofs.names.picked_faults.Given as goal

abbrev pub invariant-loop-one : goal.invariant-loop-one
invariant-loop-one l = picked_faults (drop l.one-index l.selects) ≡ picked_faults l.selects
