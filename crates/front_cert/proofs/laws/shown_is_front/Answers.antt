use Rattle.front_cert.proofs.Fronted.{is-front}
use Rattle.front_cert.proofs.laws.shown_is_front.Goals as goal

pub returns : goal.returns
returns g c = is-front g.of c.requires
