use Rattle.std.proofs.Common.{◌≡◌, subst, sym}
use Rattle.std.specs.Prelude.{IfErr, IfOk}
use Rattle.debug_core.specs.declared.error.DebugErr.{DebugErr}
use Rattle.debug_core.specs.declared.error.DebugErr.TheVariants.{NoMemory}
use Rattle.debug_core.specs.Problems.{IsFormFor, IsProblem, IsRefused, Problem}
use Rattle.load_problem.specs.Refusals.{FormRefused}
use Rattle.refusal.specs.Ends.{HasCause}
use Rattle.check_cmd.proofs.evidence.plan_in.Goals as goal

pub form_plan-requires : goal.form_plan-requires
form_plan-requires g c = subst IsProblem (sym c.question.ensures) c.requires

pub returns-clause-form : goal.returns-clause-form
returns-clause-form g c =
    subst (λ (p : Problem). IfOk c.form_plan.result (λ plan. IsFormFor p plan.vars plan.clauses)) c.question.ensures
    c.form_plan.ensures.form

pub returns-clause-refused : goal.returns-clause-refused
returns-clause-refused g c =
    subst (λ (p : Problem). IfErr c.form_plan.result (HasCause (FormRefused p))) c.question.ensures c.form_plan.ensures.refused

pub returns-clause-only : goal.returns-clause-only
returns-clause-only g c = λ only.
    c.form_plan.ensures.only
    (subst (λ (p : Problem). (fault : DebugErr) → IsRefused p fault → fault ≡ NoMemory) (sym c.question.ensures) only)
