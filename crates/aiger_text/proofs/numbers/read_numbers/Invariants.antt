use Rattle.std.proofs.Common.{◌≡◌, length}
use Rattle.aiger_text.specs.Numbers.{numbers_in}
use Rattle.aiger_text.proofs.NumberSteps.{joined}
use Rattle.aiger_text.proofs.numbers.read_numbers.Given as goal

abbrev pub invariant-loop-cut : goal.invariant-loop-cut
invariant-loop-cut l = numbers_in l.line ≡ joined l.numbers.items l.rest

abbrev pub decreases-loop-cut : goal.decreases-loop-cut
decreases-loop-cut l = length l.rest
