use Rattle.list_verdict.specs.Claims.{claim_of}
use Rattle.list_session.proofs.Taking.{shown-taken}
use Rattle.list_session.proofs.take.shown.Goals as goal

pub returns-in-None : goal.returns-in-None
returns-in-None g c =
    shown-taken (claim_of c.args.listed.now) c.in_ok-suspect.field-0 c.args.found c.in-None.is c.in_ok-suspect.ensures c.requires.faultless
    c.requires.found c.requires.chainless
