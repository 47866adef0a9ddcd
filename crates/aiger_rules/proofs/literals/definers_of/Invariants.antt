use Rattle.std.proofs.Common.{◌≡◌, ℕ, take}
use Rattle.aiger_rules.specs.First.{place_of}
use Rattle.aiger_rules.specs.Literals.{definer}
use Rattle.aiger_rules.proofs.literals.definers_of.Given as goal

abbrev pub invariant-loop-number : goal.invariant-loop-number
invariant-loop-number l = (literal : ℕ) → place_of l.definers literal ≡ definer (take l.number l.rows) literal
