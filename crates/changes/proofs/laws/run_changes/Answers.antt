use Rattle.changes.proofs.ChangeLaws.{change_in-are}
use Rattle.changes.proofs.laws.run_changes.Goals as goal

pub returns : goal.returns
returns g c = change_in-are g.of.design g.of.trace g.of.places g.of.values g.of.run c.requires.0 c.requires.1
