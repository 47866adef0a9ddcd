use Rattle.std.proofs.Common.{◌≡◌, map, take}
use Rattle.report_sets.specs.Found.{suspect_of}
use Rattle.report_sets.proofs.findings.suspects_of.Given as goal

abbrev pub invariant-loop-group : goal.invariant-loop-group
invariant-loop-group l = l.made ≡ map (suspect_of l.places) (take l.group-index l.groups)
