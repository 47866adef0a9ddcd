use Rattle.std.proofs.Common.{◌≡◌, map, take}
use Rattle.report_sets.specs.Found.{set_of}
use Rattle.report_sets.proofs.findings.sets_of.Given as goal

abbrev pub invariant-loop-set : goal.invariant-loop-set
invariant-loop-set l = l.made ≡ map (set_of l.traces) (take l.set-index l.sets)
