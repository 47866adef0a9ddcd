use Rattle.std.proofs.Common.{◌≡◌, drop}
use Rattle.clause_base.specs.Literal.{has_variable}
use Rattle.clause_base.proofs.variables.has_variable.Given as goal

abbrev pub invariant-loop-literal : goal.invariant-loop-literal
invariant-loop-literal l = has_variable (drop l.literal-index l.literals) l.var ≡ has_variable l.literals l.var
