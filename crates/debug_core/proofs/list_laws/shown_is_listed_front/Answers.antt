use Rattle.debug_core.proofs.Given.{given-front}
use Rattle.debug_core.proofs.list_laws.shown_is_listed_front.Goals as goal

pub returns : goal.returns
returns g c = given-front g.of c.requires.0 c.requires.1.0 c.requires.1.1
