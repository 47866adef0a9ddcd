use Rattle.bind_laws.proofs.Whole.{instances-stand}
use Rattle.bind_laws.proofs.instance_laws.elaborated_stand.Goals as goal

pub returns : goal.returns
returns g c = instances-stand g.of.units g.of.name g.of.list c.requires
