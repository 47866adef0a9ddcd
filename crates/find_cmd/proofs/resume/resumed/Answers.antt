use Rattle.std.proofs.Common.{sym, subst}
use Rattle.debug_core.specs.Problems.{problem_of}
use Rattle.load_problem.proofs.Causes.{form-cause, form-memory, problem-counts}
use Rattle.requests.specs.Views.{session_names}
use Rattle.session_reading.proofs.Causes.{memory-spared, ok-of}
use Rattle.list_writer.specs.Asked.{Session}
use Rattle.find_cmd.specs.Sessions.{BeginsWith}
use Rattle.find_cmd.proofs.Taking.{taken-limit, wanting-cause, wanting-counts, wanting-spared, wanting-status}
use Rattle.find_cmd.proofs.resume.resumed.Goals as goal

pub returns-in-Ok-clause-counts : goal.returns-in-Ok-clause-counts
returns-in-Ok-clause-counts g c = wanting-counts _ _ c.going_on.result c.going_on.ensures.memory c.in_ok-taken.ensures.counts

pub returns-in-Ok-clause-status : goal.returns-in-Ok-clause-status
returns-in-Ok-clause-status g c = wanting-status c.going_on.result c.going_on.ensures.memory

pub returns-in-Ok-clause-session : goal.returns-in-Ok-clause-session
returns-in-Ok-clause-session g c = λ told.
    let job = c.args.job in
    ok-of _ _ c.going_on.result
    (λ task same. subst (λ (s : Session). BeginsWith (session_names c.args.names.now) (g.S.Shelf.texts c.args.shelf.now)
    (problem_of job.question) job.inputs s) (sym same) (c.in_ok-taken.ensures.session told))
    c.going_on.ensures.session

pub returns-in-Ok-clause-refused : goal.returns-in-Ok-clause-refused
returns-in-Ok-clause-refused g c = λ told. wanting-cause _ c.going_on.result c.going_on.ensures.memory

pub returns-in-Ok-clause-only : goal.returns-in-Ok-clause-only
returns-in-Ok-clause-only g c = λ told can. wanting-spared c.going_on.result c.going_on.ensures.memory

pub returns-in-Err-clause-counts : goal.returns-in-Err-clause-counts
returns-in-Err-clause-counts g c =
    problem-counts _ _ c.in-Err.fault c.problem_line.result c.problem_line.ensures.says c.in_ok-taken.ensures.counts

pub returns-in-Err-clause-refused : goal.returns-in-Err-clause-refused
returns-in-Err-clause-refused g c = λ told.
    let job = c.args.job in
    taken-limit (session_names c.args.names.now) (g.S.Shelf.texts c.args.shelf.now) (problem_of job.question) job.inputs
    c.problem_line.result
    (form-cause (problem_of job.question) c.in-Err.fault c.problem_line.result c.in-Err.ensures.err c.problem_line.ensures.status
    c.problem_line.ensures.says)

pub returns-in-Err-clause-only : goal.returns-in-Err-clause-only
returns-in-Err-clause-only g c = λ told can.
    memory-spared c.problem_line.result
    (form-memory c.in-Err.fault c.problem_line.result c.problem_line.ensures.status c.problem_line.ensures.says
    (can.no_limit c.in-Err.fault c.in-Err.ensures.err))
