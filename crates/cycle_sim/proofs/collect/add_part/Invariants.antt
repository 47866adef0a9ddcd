use Rattle.std.proofs.Common.{IsTrue}
use Rattle.design_core.specs.WellFormed.{part_fits}
use Rattle.cycle_sim.proofs.Collecting.{NamedSoFar}
use Rattle.cycle_sim.proofs.collect.add_part.Given as goal

abbrev pub invariant-loop-k : goal.invariant-loop-k
invariant-loop-k l = IsTrue (part_fits l.signals l.part) → NamedSoFar l.signals l.initial.row.items l.row.items l.part l.k
