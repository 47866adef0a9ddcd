use Rattle.std.proofs.Common.{◌≡◌, ℕ, true, false, get_or, drop}
use Rattle.clause_base.specs.Literal.{has_variable}
use Rattle.proof_check.proofs.text.seen.forget.Given as goal

abbrev pub invariant-loop-literal : goal.invariant-loop-literal
invariant-loop-literal l = (v : ℕ) → get_or l.seen v false ≡ true → has_variable (drop l.literal-index l.literals) v ≡ true
