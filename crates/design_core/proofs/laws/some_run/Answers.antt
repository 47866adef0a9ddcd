use Rattle.design_core.proofs.RunLaws.{run-exists}
use Rattle.design_core.proofs.laws.some_run.Goals as goal

pub returns : goal.returns
returns g c = run-exists g.of.design g.of.order c.requires.0 c.requires.1.0 c.requires.1.1 g.of.trace g.of.freed g.of.choices
