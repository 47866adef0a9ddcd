use Rattle.std.proofs.Common.{IsTrue}
use Rattle.std.specs.List.{list_all}
use Rattle.design_core.specs.Drives.{part_drives}
use Rattle.design_core.specs.WellFormed.{part_fits}
use Rattle.cycle_sim.proofs.Collecting.{AddsSoFar}
use Rattle.cycle_sim.proofs.collect.add_parts.Given as goal

abbrev pub invariant-loop-k : goal.invariant-loop-k
invariant-loop-k l =
    IsTrue (list_all (part_fits l.signals) l.parts)
    → AddsSoFar l.signals l.initial.row.items l.row.items (λ s b. part_drives l.signals s b) l.parts l.k
