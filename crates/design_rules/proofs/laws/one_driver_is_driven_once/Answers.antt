use Rattle.design_rules.proofs.OneDriverLaws.{driven-once}
use Rattle.design_rules.proofs.laws.one_driver_is_driven_once.Goals as goal

pub returns : goal.returns
returns g c = driven-once g.design c.requires.0 c.requires.1
