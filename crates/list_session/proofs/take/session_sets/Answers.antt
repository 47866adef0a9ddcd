use Rattle.std.proofs.Common.{rules}
use Rattle.list_verdict.specs.Claims.{claim_of}
use Rattle.list_session.proofs.Taking.{not-unfit, taken-of, unfit-cause, why-of}
use Rattle.list_session.proofs.take.session_sets.Goals as goal

pub returns-in-Ok-Ok-clause-taken : goal.returns-in-Ok-Ok-clause-taken
returns-in-Ok-Ok-clause-taken g c =
    taken-of (claim_of c.args.listed.now) c.in-Ok-Ok.field-0 c.in-Ok-Ok.found (search rules) c.in-Ok-Ok.ensures

pub returns-in-Ok-Err-clause-refused : goal.returns-in-Ok-Err-clause-refused
returns-in-Ok-Err-clause-refused g c =
    unfit-cause (claim_of c.args.listed.now) c.in-Ok-Err.unfit c.unfit_line.result
    (why-of (claim_of c.args.listed.now) c.in-Ok-Err.field-0 c.in-Ok-Err.unfit (search rules) c.in-Ok-Err.ensures) c.unfit_line.ensures.says

pub returns-in-Ok-Err-clause-only : goal.returns-in-Ok-Err-clause-only
returns-in-Ok-Err-clause-only g c = λ fit.
    absurd (not-unfit (claim_of c.args.listed.now) c.in-Ok-Err.unfit c.requires.can.problem fit
    (why-of (claim_of c.args.listed.now) c.in-Ok-Err.field-0 c.in-Ok-Err.unfit (search rules) c.in-Ok-Err.ensures))
