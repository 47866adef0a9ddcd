use Rattle.changes.proofs.ChangeLaws.{values-run}
use Rattle.changes.proofs.laws.values_run.Goals as goal

pub returns : goal.returns
returns g c =
    values-run g.of.design g.of.trace g.of.places g.of.values g.of.changes g.of.run c.requires.0 c.requires.1
