use Rattle.debug_core.proofs.Certified.{certifies}
use Rattle.debug_core.proofs.list_laws.enumerator_certifies.Goals as goal

pub returns : goal.returns
returns c = certifies
