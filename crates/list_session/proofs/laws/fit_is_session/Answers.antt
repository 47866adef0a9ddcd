use Rattle.list_session.proofs.Taking.{fit-session}
use Rattle.list_session.proofs.laws.fit_is_session.Goals as goal

pub returns : goal.returns
returns g c = fit-session g.of c.requires.0 c.requires.1
