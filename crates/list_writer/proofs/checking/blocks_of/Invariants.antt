use Rattle.std.proofs.Common.{◌≡◌, take}
use Rattle.list_writer.specs.Checks.{blocks_for}
use Rattle.list_writer.proofs.checking.blocks_of.Given as goal

abbrev pub invariant-loop-set : goal.invariant-loop-set
invariant-loop-set l = l.blocks.items ≡ blocks_for (take l.set-index l.found)
