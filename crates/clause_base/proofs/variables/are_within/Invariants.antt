use Rattle.std.proofs.Common.{ℕ, ◌<◌, [], get_or}
use Rattle.clause_base.specs.Literal.{IsWithin}
use Rattle.clause_base.proofs.variables.are_within.Given as goal

abbrev pub invariant-loop-place : goal.invariant-loop-place
invariant-loop-place l = (k : ℕ) → k < l.place → IsWithin l.vars (get_or l.clauses k [])
