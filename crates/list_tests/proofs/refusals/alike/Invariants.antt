use Rattle.std.specs.Prelude.{◌<◌, length}
use Rattle.suspect_map.specs.Groups.{AreWithin}
use Rattle.list_tests.proofs.refusals.alike.Given as goal

abbrev pub invariant-loop-suspect : goal.invariant-loop-suspect
invariant-loop-suspect l = AreWithin (length l.d.places.items) l.groups
