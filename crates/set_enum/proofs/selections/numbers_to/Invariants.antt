use Rattle.std.proofs.Common.{◌≡◌}
use Rattle.set_enum.specs.Sets.{numbers_from}
use Rattle.set_enum.proofs.selections.numbers_to.Given as goal

abbrev pub invariant-loop-before : goal.invariant-loop-before
invariant-loop-before l = l.numbers.items ≡ numbers_from 1 l.before
