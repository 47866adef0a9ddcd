use Rattle.debug_core.proofs.Sessions.{shown-session}
use Rattle.debug_core.proofs.list_laws.shown_is_session.Goals as goal

pub returns : goal.returns
returns g c = shown-session g.of c.requires.0 c.requires.1
