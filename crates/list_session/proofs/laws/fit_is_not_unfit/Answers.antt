use Rattle.list_session.proofs.Taking.{not-unfit}
use Rattle.list_session.proofs.laws.fit_is_not_unfit.Goals as goal

pub returns : goal.returns
returns g c = not-unfit g.of.claim g.of.unfit c.requires.0 c.requires.1
