use Rattle.std.proofs.Common.{◌≡◌, true, take}
use Rattle.suspect_map.specs.Groups.{numbers_at}
use Rattle.localise_cmd_tests.proofs.own.EverythingGranularity.groups.Given as goal

abbrev pub invariant-loop-place : goal.invariant-loop-place
invariant-loop-place l = l.numbers ≡ numbers_at (λ _. true) 0 (take l.place l.places)
