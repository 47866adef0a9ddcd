use Rattle.list_verdict.specs.Claims.{claim_of}
use Rattle.list_verdict.proofs.Ordered.{ascending}
use Rattle.list_verdict.proofs.examination.sets_fault.Goals as goal

pub first_to_hold-requires-clause-order : goal.first_to_hold-requires-clause-order
first_to_hold-requires-clause-order g c = ascending (claim_of c.args.listed.now) c.requires.in_order
