use Rattle.freed_conditions.proofs.OnceFreed.{once-freed}
use Rattle.freed_conditions.proofs.laws.freed_is_driven_once.Goals as goal

pub returns : goal.returns
returns g c = once-freed g.two.design g.two.freed c.requires.0 c.requires.1.0 c.requires.1.1
