use Rattle.design_circuits.proofs.GivenWidths.{net-given}
use Rattle.design_circuits.proofs.net_laws.net_is_given.Goals as goal

pub returns : goal.returns
returns g c = net-given g.net.of.design g.net.of.order g.net.given c.requires.0 c.requires.1.1.0 c.requires.1.1.1
