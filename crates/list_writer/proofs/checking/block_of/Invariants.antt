use Rattle.std.proofs.Common.{◌≡◌, take}
use Rattle.set_enum.specs.Sets.{block_of}
use Rattle.list_writer.proofs.checking.block_of.Given as goal

abbrev pub invariant-loop-member : goal.invariant-loop-member
invariant-loop-member l = l.literals.items ≡ block_of (take l.member-index l.members)
