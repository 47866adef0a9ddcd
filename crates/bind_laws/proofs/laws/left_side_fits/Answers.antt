use Rattle.bind_laws.proofs.Lefts.{target-fits}
use Rattle.bind_laws.proofs.laws.left_side_fits.Goals as goal

pub returns : goal.returns
returns g c = target-fits g.of.signals g.of.names g.of.written g.of.left c.requires.0 c.requires.1
