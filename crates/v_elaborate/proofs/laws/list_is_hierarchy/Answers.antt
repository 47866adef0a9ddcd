use Rattle.v_elaborate.proofs.HierarchyLaws.{list-hierarchy}
use Rattle.v_elaborate.proofs.laws.list_is_hierarchy.Goals as goal

pub returns : goal.returns
returns g c = list-hierarchy g.of.units g.of.name g.of.top g.of.list c.requires.0 c.requires.1
