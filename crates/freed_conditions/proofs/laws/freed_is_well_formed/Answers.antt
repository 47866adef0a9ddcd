use Rattle.freed_conditions.proofs.WellFreed.{well-freed}
use Rattle.freed_conditions.proofs.laws.freed_is_well_formed.Goals as goal

pub returns : goal.returns
returns g c = well-freed g.two.design g.two.freed c.requires.0 c.requires.1
