use Rattle.std.proofs.Common.{◌≡◌, ◌++◌, map, take}
use Rattle.std.specs.Prelude.{decimal}
use Rattle.proof_check.specs.Text.{spaced}
use Rattle.proof_check.proofs.text.write.write_numbers.Given as goal

abbrev pub invariant-loop-number : goal.invariant-loop-number
invariant-loop-number l = l.text ≡ l.initial.text ++ spaced (map decimal (take l.number-index l.numbers))
