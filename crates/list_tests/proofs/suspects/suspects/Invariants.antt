use Rattle.std.specs.Prelude.{length}
use Rattle.suspect_map.specs.Groups.{AreWithin}
use Rattle.list_tests.proofs.suspects.suspects.Given as goal

abbrev pub invariant-loop-place : goal.invariant-loop-place
invariant-loop-place l = AreWithin (length l.d.places.items) l.groups
