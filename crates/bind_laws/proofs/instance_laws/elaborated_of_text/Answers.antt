use Rattle.bind_laws.proofs.OfWhole.{instances-of}
use Rattle.bind_laws.proofs.instance_laws.elaborated_of_text.Goals as goal

pub returns : goal.returns
returns g c = instances-of g.of.units g.of.name g.of.list c.requires.0 c.requires.1
