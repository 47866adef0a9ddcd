use Rattle.std.proofs.Common.{◌≡◌, true, take}
use Rattle.clause_base.specs.Literal.{has_distinct_variables}
use Rattle.clause_base.proofs.variables.has_distinct_variables.Given as goal

abbrev pub invariant-loop-place : goal.invariant-loop-place
invariant-loop-place l = has_distinct_variables (take l.place l.literals) ≡ true
