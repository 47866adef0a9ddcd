use Rattle.std.proofs.Common.{rules, sym, subst}
use Rattle.card_counter.specs.InForm.{HasCounter}
use Rattle.solver_tests.proofs.CounterLaws.{counter_push}
use Rattle.solver_tests.proofs.sets.problem.clauses_with.Goals as goal

pub loop-place-preserved : goal.loop-place-preserved
loop-place-preserved g c =
    subst (HasCounter c.args.shape.n c.args.shape.k c.args.shape.vars) (sym c.in_ok-push.ensures.ok)
    (counter_push c.args.shape.n c.args.shape.k c.args.shape.vars c.loop-place.clauses c.clause-clause.result.now c.loop-place.invariant
    (c.names_no_counter.ensures.0 (search rules)))
