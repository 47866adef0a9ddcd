use Rattle.change_lines.proofs.SetSteps.{lines-unique}
use Rattle.change_lines.proofs.laws.one_list.Goals as goal

pub returns : goal.returns
returns g c =
    lines-unique g.of.by.told g.of.by.order c.requires.0 g.of.by.number g.of.by.first g.of.by.traces g.of.one g.of.other c.requires.1.0 c.requires.1.1
