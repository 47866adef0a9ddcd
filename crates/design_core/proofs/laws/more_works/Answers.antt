use Rattle.design_core.proofs.WorksLaws.{works-more}
use Rattle.design_core.proofs.laws.more_works.Goals as goal

pub returns : goal.returns
returns g c = works-more g.of.design g.of.traces g.of.groups g.of.inner g.of.outer c.requires.0 c.requires.1.0 c.requires.1.1
