use Rattle.design_core.proofs.RunLaws.{run-unique}
use Rattle.design_core.proofs.laws.same_run.Goals as goal

pub returns : goal.returns
returns g c =
    run-unique g.of.design g.of.order c.requires.0 c.requires.1.0 g.of.trace g.of.freed g.of.choices
    g.of.one g.of.other c.requires.1.1.0 c.requires.1.1.1
