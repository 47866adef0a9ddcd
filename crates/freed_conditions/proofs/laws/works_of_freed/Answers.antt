use Rattle.freed_conditions.proofs.RunFreed.{works-old}
use Rattle.freed_conditions.proofs.laws.works_of_freed.Goals as goal

pub returns : goal.returns
returns g c =
    works-old g.two.of.design g.two.of.freed c.requires.0 c.requires.1.0 g.two.traces g.two.groups c.requires.1.1.0 g.two.set c.requires.1.1.1
