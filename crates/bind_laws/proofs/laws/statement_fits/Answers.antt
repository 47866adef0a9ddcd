use Rattle.bind_laws.proofs.Bodies.{body-fits}
use Rattle.bind_laws.proofs.laws.statement_fits.Goals as goal

pub returns : goal.returns
returns g c = body-fits g.of.signals g.of.home g.of.names g.of.steps g.of.before g.of.result c.requires.0 c.requires.1.0 c.requires.1.1
