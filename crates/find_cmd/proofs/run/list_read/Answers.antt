use Rattle.std.proofs.Common.{ap, sym, subst, refl}
use Rattle.debug_core.specs.Problems.{IsProblem, IsRefused, Problem}
use Rattle.load_problem.specs.Inputs.{problem_in}
use Rattle.load_problem.specs.Means.{IsDigestOf, Means}
use Rattle.list_writer.specs.Asked.{Asked as Listing}
use Rattle.list_writer.specs.Jobs.{IsJob, session_of}
use Rattle.requests.specs.Asked.{IsUpTo, wanted_for}
use Rattle.find_cmd.specs.Views.{list_asked}
use Rattle.find_cmd.proofs.Faults.{listed-fault, unformed-fault, unread-fault}
use Rattle.find_cmd.proofs.Jobs.{begun-alone, begun-goes, begun-held, job-with}
use Rattle.find_cmd.proofs.Listed.{listing-keeps}
use Rattle.find_cmd.proofs.Reading.{at-ok, counts-ok, unformed-keeps, unread-keeps}
use Rattle.find_cmd.proofs.run.list_read.Goals as goal

pub list-requires-clause-workers : goal.list-requires-clause-workers
list-requires-clause-workers g c κs within =
    subst (IsUpTo 64) (sym c.workers_of-workers.ensures) c.requires.asked.listing.workers

pub list-requires-clause-job : goal.list-requires-clause-job
list-requires-clause-job g c κs within =
    let asked = list_asked c.args.request.now in
    let inputs = c.in-Ok.inputs in
    let problem = problem_in inputs asked.listing.size in
    let session = session_of c.new-found.result.items c.in-Ok-new.search in
    subst IsJob (sym (job-with c.job_of-job.result asked problem inputs.digest session c.job_of-job.ensures))
    (begun-held asked problem inputs.digest session
    (begun-alone _ c.new-found.result.items c.in-Ok-new.search c.new-found.ensures.items c.in-Ok-new.ensures.begins) c.requires.asked
    (at-ok (λ i. IsProblem (problem_in i asked.listing.size)) c.args.read inputs c.in-Ok.is c.requires.problem))

pub list-requires-clause-goes_with : goal.list-requires-clause-goes_with
list-requires-clause-goes_with g c κs within =
    begun-goes _ c.new-found.result.items c.in-Ok-new.search c.new-found.ensures.items c.in-Ok-new.ensures.begins

pub returns-in-Err-clause-fault : goal.returns-in-Err-clause-fault
returns-in-Err-clause-fault g c five =
    unread-fault c.args.read c.in-Err.last (g.O.Sink.faults c.args.out.now) (g.O.Sink.faults c.print.new.out) c.print.result
    c.in-Err.is c.print.ensures.counts five

pub returns-in-Err-clause-keeps : goal.returns-in-Err-clause-keeps
returns-in-Err-clause-keeps g c told texts faults on_shelf on_sink reads =
    unread-keeps g.F.FrontEnd.means g.F.FrontEnd.refuses _ (list_asked c.args.request.now) _ _ c.args.read c.in-Err.last
    c.print.result c.in-Err.is reads c.requires.status refl refl (λ t. c.print.ensures.text (on_sink t)) c.print.ensures.counts

pub returns-in-Ok-new-clause-fault : goal.returns-in-Ok-new-clause-fault
returns-in-Ok-new-clause-fault g c five = listed-fault c.args.read c.list.result c.status.result c.status.ensures five

pub returns-in-Ok-new-clause-keeps : goal.returns-in-Ok-new-clause-keeps
returns-in-Ok-new-clause-keeps g c told texts faults on_shelf on_sink reads =
    let asked = list_asked c.args.request.now in
    let inputs = c.in-Ok.inputs in
    let problem = problem_in inputs asked.listing.size in
    let found = c.new-found.result.items in
    let session = session_of found c.in-Ok-new.search in
    listing-keeps g.F.FrontEnd.means _ asked _ _ problem inputs.digest session _ (g.S.Shelf.written c.args.shelf.now)
    (g.S.Shelf.faults c.args.shelf.now) c.list.result c.status.result
    (job-with c.job_of-job.result asked problem inputs.digest session c.job_of-job.ensures) refl
    (counts-ok _ _ c.args.read inputs c.in-Ok.is reads.counts) c.status.ensures
    (λ t. at-ok (λ i. Means g.F.FrontEnd.means _ (wanted_for asked) texts (problem_in i asked.listing.size)) c.args.read inputs c.in-Ok.is
    (reads.means t))
    (λ t. at-ok (λ i. IsDigestOf (wanted_for asked) texts i.digest) c.args.read inputs c.in-Ok.is (reads.digest t))
    (λ t. begun-alone _ found c.in-Ok-new.search c.new-found.ensures.items c.in-Ok-new.ensures.begins)
    (λ t. c.list.ensures.left (on_shelf t) (on_sink t))
    (λ t. c.list.ensures.checkpoints (on_shelf t) (on_sink t))
    (λ t. c.list.ensures.others (on_shelf t) (on_sink t))
    c.list.ensures.causes

pub returns-clause-fault : goal.returns-clause-fault
returns-clause-fault g c five =
    unformed-fault c.args.read c.in-Err-new.fault c.problem_line.result (g.O.Sink.faults c.args.out.now)
    (g.O.Sink.faults c.print-in-Err-new.new.out) c.print-in-Err-new.result c.problem_line.ensures.says c.print-in-Err-new.ensures.counts
    five

pub returns-clause-keeps : goal.returns-clause-keeps
returns-clause-keeps g c told texts faults on_shelf on_sink reads =
    let asked = list_asked c.args.request.now in
    let inputs = c.in-Ok.inputs in
    let fault = c.in-Err-new.fault in
    let refused = subst (λ (p : Problem). IsRefused p fault) (ap (λ (l : Listing). l.problem) c.job_of-job.ensures)
    c.in-Err-new.ensures.err in
    unformed-keeps g.F.FrontEnd.means g.F.FrontEnd.refuses _ asked _ _ c.args.read inputs fault c.problem_line.result
    c.print-in-Err-new.result c.in-Ok.is reads refused c.problem_line.ensures.status c.problem_line.ensures.says refl refl
    (λ t. c.print-in-Err-new.ensures.text (on_sink t)) c.print-in-Err-new.ensures.counts
