use Rattle.std.proofs.Common.{◌≡◌, map, take}
use Rattle.report_sets.specs.Found.{suspect_of}
use Rattle.check_cmd.proofs.table.first_other.Given as goal

abbrev pub invariant-loop-place : goal.invariant-loop-place
invariant-loop-place l = take l.place l.suspects ≡ take l.place (map (suspect_of l.places) l.groups)
