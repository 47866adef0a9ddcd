use Rattle.v_elaborate.proofs.HierarchyLaws.{list-turns}
use Rattle.v_elaborate.proofs.laws.turns_are_few.Goals as goal

pub returns : goal.returns
returns g c = list-turns g.of.units g.of.name g.of.top g.of.list c.requires.0 c.requires.1
