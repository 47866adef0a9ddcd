use Rattle.v_elaborate.proofs.HierarchyLaws.{list-depth}
use Rattle.v_elaborate.proofs.laws.no_instance_is_deeper.Goals as goal

pub returns : goal.returns
returns g c = list-depth g.of.units g.of.name g.of.top g.of.list c.requires.0 c.requires.1
