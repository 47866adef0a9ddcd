use Rattle.sim_lines.proofs.SomeLines.{some-lines}
use Rattle.sim_lines.proofs.laws.some_lines.Goals as goal

pub returns : goal.returns
returns g c = some-lines g.of.design g.of.order c.requires g.of.number g.of.traces
