use Rattle.debug_core.specs.Problems.{problem_of}
use Rattle.find_cmd.specs.Parts.{session_in}
use Rattle.find_cmd.proofs.Resuming.{has-resumed, may-go-on, same-session}
use Rattle.find_cmd.proofs.resume.going_on.Goals as goal

pub going_on_near-requires : goal.going_on_near-requires
going_on_near-requires c =
    may-go-on (problem_of c.args.job.question) c.args.search (session_in c.args.taken) c.requires.begins c.requires.holds c.requires.taken

pub returns-in-Ok-clause-resumed : goal.returns-in-Ok-clause-resumed
returns-in-Ok-clause-resumed c =
    has-resumed (problem_of c.args.job.question) c.args.search c.in-Ok.search (session_in c.args.taken) c.requires.begins c.requires.holds
    c.requires.taken c.in-Ok.ensures.goes_on c.in-Ok.ensures.holds

pub returns-in-Ok-clause-session : goal.returns-in-Ok-clause-session
returns-in-Ok-clause-session c =
    same-session (session_in c.args.taken) c.args.search c.in-Ok.search c.in-Ok.ensures.goes_on
