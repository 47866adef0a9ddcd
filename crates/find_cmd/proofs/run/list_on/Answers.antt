use Rattle.std.proofs.Common.{arith, ap, sym, subst, refl, ◌∙◌}
use Rattle.std.specs.Prelude.{All}
use Rattle.std.proofs.lemmas.Bool.{and_parts}
use Rattle.debug_core.specs.Problems.{IsProblem, Problem}
use Rattle.list_writer.specs.Asked.{Asked as Listing}
use Rattle.list_writer.specs.Found.{IsShown}
use Rattle.list_writer.specs.Jobs.{GoesWith, IsJob, session_of}
use Rattle.load_problem.specs.Inputs.{HaveNumbers, problem_in}
use Rattle.load_problem.specs.Means.{IsDigestOf, Means}
use Rattle.refusal.specs.Ends.{HasCause, RefusalCounts}
use Rattle.requests.specs.Asked.{IsUpTo, wanted_for}
use Rattle.requests.specs.Views.{session_names}
use Rattle.find_cmd.specs.Parts.{CanBeTaken, HasFew, NotTaken}
use Rattle.find_cmd.specs.Reading.{IsDueOf}
use Rattle.find_cmd.specs.Refusals.{Refused, for_inputs}
use Rattle.find_cmd.specs.Sessions.{BeginsWith}
use Rattle.find_cmd.specs.Views.{resume_asked}
use Rattle.find_cmd.proofs.Jobs.{job-held, job-with}
use Rattle.find_cmd.proofs.Listed.{listing-keeps}
use Rattle.find_cmd.proofs.Reading.{at-ok, counts-ok, unread-keeps}
use Rattle.find_cmd.proofs.Refused.{due-keeps}
use Rattle.find_cmd.proofs.Resuming.{few-in, unresumed-keeps}
use Rattle.find_cmd.proofs.run.list_on.Goals as goal

pub resumed-requires-clause-some : goal.resumed-requires-clause-some
resumed-requires-clause-some g c κs within = omega (arith, c.workers_of-workers.ensures, c.requires.asked.listing.workers.0)

pub resumed-requires-clause-most : goal.resumed-requires-clause-most
resumed-requires-clause-most g c κs within = omega (arith, c.workers_of-workers.ensures, c.requires.asked.listing.workers.1)

pub resumed-requires-clause-problem : goal.resumed-requires-clause-problem
resumed-requires-clause-problem g c κs within =
    let size = c.args.request.now.list.listing.now.size in
    subst IsProblem (sym (ap (λ (l : Listing). l.problem) c.job_of-job.ensures))
    (at-ok (λ i. IsProblem (problem_in i size)) c.args.read c.in-Ok.inputs c.in-Ok.is c.requires.problem)

pub resumed-requires-clause-few : goal.resumed-requires-clause-few
resumed-requires-clause-few g c κs within =
    subst HasFew (sym (ap (λ (l : Listing). l.problem) c.job_of-job.ensures))
    (few-in c.in-Ok.inputs c.args.request.now.list.listing.now.size (at-ok HaveNumbers c.args.read c.in-Ok.inputs c.in-Ok.is c.requires.numbers))

pub list-requires-clause-workers : goal.list-requires-clause-workers
list-requires-clause-workers g c κs within =
    subst (IsUpTo 64) (sym c.workers_of-workers.ensures) c.requires.asked.listing.workers

pub list-requires-clause-job : goal.list-requires-clause-job
list-requires-clause-job g c κs within =
    let asked = resume_asked c.args.request.now in
    let inputs = c.in-Ok.inputs in
    let problem = problem_in inputs asked.listing.size in
    let task = c.in-Ok-resumed.task in
    let session = session_of task.found.items task.search in
    let has = c.in-Ok-resumed.ensures.resumed in
    subst IsJob (sym (job-with task.job asked problem inputs.digest session (c.in-Ok-resumed.ensures.job ∙ c.job_of-job.ensures)))
    (job-held asked problem inputs.digest session c.requires.asked
    (at-ok (λ i. IsProblem (problem_in i asked.listing.size)) c.args.read inputs c.in-Ok.is c.requires.problem)
    (subst (λ (p : Problem). All (IsShown p) task.found.items) (ap (λ (l : Listing). l.problem) c.job_of-job.ensures) has.shown)
    has.few_sets has.few_steps)

pub list-requires-clause-goes_with : goal.list-requires-clause-goes_with
list-requires-clause-goes_with g c κs within =
    let task = c.in-Ok-resumed.task in
    subst (λ (p : Problem). GoesWith p (session_of task.found.items task.search) task.search)
    (sym (ap (λ (l : Listing). l.problem) c.in-Ok-resumed.ensures.job)) c.in-Ok-resumed.ensures.resumed.goes

pub list-requires-clause-holds : goal.list-requires-clause-holds
list-requires-clause-holds g c κs within = c.in-Ok-resumed.ensures.resumed.holds

pub returns-in-Err : goal.returns-in-Err
returns-in-Err g c faults reads =
    let M = g.F.FrontEnd.means in
    let R = g.F.FrontEnd.refuses in
    let asked = resume_asked c.args.request.now in
    let both = and_parts (g.S.Shelf.tells c.args.shelf.now) (g.O.Sink.tells c.args.out.now) in
    due-keeps M _ asked (IsDueOf M R _ asked c.args.read) (Refused M R _ asked) _ c.print.result (λ s line due. for_inputs s line due.0)
    (unread-keeps M R _ asked _ _ c.args.read c.in-Err.last c.print.result c.in-Err.is reads c.requires.status refl refl
    (λ t. c.print.ensures.text (both t).1) c.print.ensures.counts)

pub returns-in-Ok-resumed : goal.returns-in-Ok-resumed
returns-in-Ok-resumed g c faults reads =
    let M = g.F.FrontEnd.means in
    let asked = resume_asked c.args.request.now in
    let both = and_parts (g.S.Shelf.tells c.args.shelf.now) (g.O.Sink.tells c.args.out.now) in
    let texts = g.S.Shelf.texts c.args.shelf.now in
    let inputs = c.in-Ok.inputs in
    let problem = problem_in inputs asked.listing.size in
    let task = c.in-Ok-resumed.task in
    let session = session_of task.found.items task.search in
    let ended = c.in-Ok-resumed.ensures in
    listing-keeps M _ asked _ _ problem inputs.digest session _ (g.S.Shelf.written c.resumed.new.shelf)
    (g.S.Shelf.faults c.resumed.new.shelf) c.list.result c.status.result
    (job-with task.job asked problem inputs.digest session (ended.job ∙ c.job_of-job.ensures)) ended.written
    (ended.counts ∙ counts-ok _ _ c.args.read inputs c.in-Ok.is reads.counts) c.status.ensures
    (λ t. at-ok (λ i. Means M _ (wanted_for asked) texts (problem_in i asked.listing.size)) c.args.read inputs c.in-Ok.is (reads.means t))
    (λ t. at-ok (λ i. IsDigestOf (wanted_for asked) texts i.digest) c.args.read inputs c.in-Ok.is (reads.digest t))
    (λ t. subst
    (λ (l : Listing). BeginsWith (session_names c.args.request.now.names.now) texts l.problem l.inputs session) c.job_of-job.ensures
    (ended.session (both t).0))
    (λ t. c.list.ensures.left (ended.tells ∙ (both t).0) (both t).1)
    (λ t. c.list.ensures.checkpoints (ended.tells ∙ (both t).0) (both t).1)
    (λ t. c.list.ensures.others (ended.tells ∙ (both t).0) (both t).1)
    c.list.ensures.causes

pub returns : goal.returns
returns g c faults reads =
    let M = g.F.FrontEnd.means in
    let asked = resume_asked c.args.request.now in
    let both = and_parts (g.S.Shelf.tells c.args.shelf.now) (g.O.Sink.tells c.args.out.now) in
    let names = session_names c.args.request.now.names.now in
    let texts = g.S.Shelf.texts c.args.shelf.now in
    let inputs = c.in-Ok.inputs in
    let last = c.in-Err-resumed.last in
    let ended = c.in-Err-resumed.ensures in
    unresumed-keeps M g.F.FrontEnd.refuses _ asked _ names (problem_in inputs asked.listing.size) inputs.digest last
    c.print-in-Err-resumed.result refl
    (λ t. at-ok (λ i. Means M _ (wanted_for asked) texts (problem_in i asked.listing.size)) c.args.read inputs c.in-Ok.is (reads.means t))
    (λ t. at-ok (λ i. IsDigestOf (wanted_for asked) texts i.digest) c.args.read inputs c.in-Ok.is (reads.digest t))
    ended.status
    (subst (λ n. RefusalCounts n (g.S.Shelf.faults c.resumed.new.shelf) last) (counts-ok _ _ c.args.read inputs c.in-Ok.is reads.counts)
    ended.counts)
    ended.written
    (λ t. subst (λ (l : Listing). HasCause (NotTaken names texts l.problem l.inputs) last) c.job_of-job.ensures (ended.refused (both t).0))
    (λ t can. ended.only (both t).0
    (subst (λ (l : Listing). CanBeTaken names texts l.problem l.inputs) (sym c.job_of-job.ensures) can))
    (λ t. c.print-in-Err-resumed.ensures.text (both t).1) c.print-in-Err-resumed.ensures.counts
