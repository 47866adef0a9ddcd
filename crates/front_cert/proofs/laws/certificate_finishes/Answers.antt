use Rattle.front_cert.proofs.Finished.{finished}
use Rattle.front_cert.proofs.laws.certificate_finishes.Goals as goal

pub returns : goal.returns
returns g c = finished g.of c.requires.0 c.requires.1
