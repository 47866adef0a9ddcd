use Rattle.debug_core.proofs.Fronts.{next}
use Rattle.debug_core.proofs.list_laws.first_is_next.Goals as goal

pub returns : goal.returns
returns g c = next g.next.before c.requires.0 c.requires.1.0 g.next.set c.requires.1.1
