use Rattle.std.proofs.Common.{◌≡◌, true, false, take, get_or, sym, ◌∙◌, arith}
use Rattle.clause_base.specs.declared.literal.Lit.{Lit}
use Rattle.clause_base.specs.Literal.{has_variable}
use Rattle.clause_base.proofs.Sets.{distinct_more, distinct_refused}
use Rattle.clause_base.proofs.variables.has_distinct_variables.Goals as goal

pub returns-then-has_variable : goal.returns-then-has_variable
returns-then-has_variable c =
    sym (distinct_refused c.args.literals.now c.loop-place.place (record { var = 0; negated = false }) (omega arith) (sym c.has_variable.ensures ∙ c.if-has_variable.true))

pub loop-place-preserved : goal.loop-place-preserved
loop-place-preserved c =
    distinct_more c.args.literals.now c.loop-place.place (record { var = 0; negated = false }) (omega arith) c.loop-place.invariant (sym c.has_variable.ensures ∙ c.if-has_variable.false)
