use Rattle.sat_core.proofs.FreshBound.{few_fresh}
use Rattle.sat_core.proofs.laws.few_learned_are_fresh.Goals as goal

pub returns : goal.returns
returns g c = few_fresh g.of.vars g.of.form g.of.blocks g.of.log g.of.from c.requires.0 c.requires.1.0 c.requires.1.1.0 c.requires.1.1.1.0 c.requires.1.1.1.1
