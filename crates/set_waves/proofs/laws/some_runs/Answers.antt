use Rattle.set_waves.proofs.Given.{some-runs}
use Rattle.set_waves.proofs.laws.some_runs.Goals as goal

pub returns : goal.returns
returns g c = some-runs g.of.waved g.of.order g.of.sets c.requires
