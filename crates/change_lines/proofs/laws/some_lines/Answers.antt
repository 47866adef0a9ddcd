use Rattle.change_lines.proofs.SetSteps.{lines-exist}
use Rattle.change_lines.proofs.laws.some_lines.Goals as goal

pub returns : goal.returns
returns g c = lines-exist g.of.told g.of.order c.requires g.of.number g.of.first g.of.traces
