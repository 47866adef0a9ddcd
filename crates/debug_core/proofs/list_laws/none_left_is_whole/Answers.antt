use Rattle.debug_core.proofs.Fronts.{whole}
use Rattle.debug_core.proofs.list_laws.none_left_is_whole.Goals as goal

pub returns : goal.returns
returns g c = whole g.of c.requires.0 c.requires.1.0 c.requires.1.1
