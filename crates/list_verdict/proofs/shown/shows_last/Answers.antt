use Rattle.list_verdict.specs.Claims.{claim_of}
use Rattle.list_verdict.proofs.Fronted.{shown-no, shown-yes}
use Rattle.list_verdict.proofs.shown.shows_last.Goals as goal

pub returns-in-None : goal.returns-in-None
returns-in-None g c = shown-yes (claim_of c.args.listed.now) c.in_ok-missing.missing c.in-None.is c.in_ok-missing.ensures

pub returns-in-Some : goal.returns-in-Some
returns-in-Some g c = shown-no (claim_of c.args.listed.now) c.in_ok-missing.missing _ c.in-Some.is c.in_ok-missing.ensures
