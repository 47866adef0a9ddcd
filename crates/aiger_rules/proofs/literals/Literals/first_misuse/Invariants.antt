use Rattle.std.proofs.Common.{◌≡◌, ◌<◌, ℕ, false}
use Rattle.aiger_rules.specs.Literals.{is_misuse}
use Rattle.aiger_rules.proofs.literals.Literals.first_misuse.Given as goal

abbrev pub invariant-loop-number : goal.invariant-loop-number
invariant-loop-number l = (k : ℕ) → k < l.number → is_misuse l.self.most l.rows k ≡ false
