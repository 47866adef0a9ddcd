use Rattle.front_cert.proofs.Left.{none-before}
use Rattle.front_cert.proofs.laws.shown_is_not_before.Goals as goal

pub returns : goal.returns
returns g c = none-before g.of c.requires
