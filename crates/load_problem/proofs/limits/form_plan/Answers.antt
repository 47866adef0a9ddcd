use Rattle.debug_core.specs.Problems.{problem_of}
use Rattle.load_problem.proofs.Causes.{form-cause, form-memory}
use Rattle.load_problem.proofs.limits.form_plan.Goals as goal

pub returns-in-Err-clause-refused : goal.returns-in-Err-clause-refused
returns-in-Err-clause-refused g c =
    form-cause (problem_of c.args.question.now) c.in-Err.fault c.problem_line.result c.in-Err.ensures.err
    c.problem_line.ensures.status c.problem_line.ensures.says

pub returns-in-Err-clause-only : goal.returns-in-Err-clause-only
returns-in-Err-clause-only g c = λ only.
    form-memory c.in-Err.fault c.problem_line.result c.problem_line.ensures.status c.problem_line.ensures.says
    (only c.in-Err.fault c.in-Err.ensures.err)
