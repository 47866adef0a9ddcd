use Rattle.std.proofs.Common.{◌≡◌}
use Rattle.design_core.specs.Valuation.{number}
use Rattle.design_core.specs.Drives.{part_drives}
use Rattle.cycle_sim.proofs.collect.part_value.Given as goal

abbrev pub invariant-loop-b : goal.invariant-loop-b
invariant-loop-b l = l.value ≡ number l.b (λ b. part_drives l.signals l.s b l.part)
