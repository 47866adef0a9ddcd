use Rattle.std.proofs.Common.{sym, subst, arith}
use Rattle.clause_base.specs.Literal.{IsWithin}
use Rattle.clause_base.specs.Steps.{step_at}
use Rattle.clause_base.specs.Acceptance.{IsAcceptedStep}
use Rattle.sat_core.specs.SolverState.{SolverState, IsSolver, blocks_of}
use Rattle.sat_core.proofs.SolverLemmas.{solver_of}
use Rattle.sat_core.proofs.Importing.{accepted_next, within_next, with_none, with_more}
use Rattle.sat_core.proofs.solver.Solver.import.Goals as goal

pub loop-place-init : goal.loop-place-init
loop-place-init c = record {
  state = with_none c.args.self.now;
  solver = subst IsSolver c.self.view_is (solver_of c.self.inside.engine c.self.inside.log c.self.inside.told c.self.invariant.0);
  end = c.len-place-end.ensures.value;
}

pub take_over-requires-clause-accepted : goal.take_over-requires-clause-accepted
take_over-requires-clause-accepted c = λ n.
    subst (λ (s : SolverState). IsAcceptedStep s.form (blocks_of s.log) s.log (step_at c.args.log.now c.loop-place.place)) (sym c.loop-place.invariant.state)
    (accepted_next c.args.self.now.form c.args.self.now.log c.args.log.now c.loop-place.place c.requires.may.accepted (omega (arith, c.loop-place-test.true, c.len-place-end.ensures.value)) n)

pub take_over-requires-clause-within : goal.take_over-requires-clause-within
take_over-requires-clause-within c =
    subst (λ (s : SolverState). IsWithin s.vars (step_at c.args.log.now c.loop-place.place).clause) (sym c.loop-place.invariant.state)
    (within_next c.args.self.now.vars c.args.log.now c.loop-place.place c.requires.may.within (omega (arith, c.loop-place-test.true, c.len-place-end.ensures.value)))

pub loop-place-preserved : goal.loop-place-preserved
loop-place-preserved c = record {
  state = with_more c.args.self.now c.loop-place.self c.take_over.new.self c.args.log.now c.loop-place.place (omega (arith, c.loop-place-test.true, c.len-place-end.ensures.value)) c.loop-place.invariant.state c.in_ok-take_over.ensures.ok;
  solver = c.take_over.ensures.solver;
  end = c.loop-place.invariant.end;
}
