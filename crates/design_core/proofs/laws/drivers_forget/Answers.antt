use Rattle.design_core.proofs.DriversForget.{drivers-forget}
use Rattle.design_core.proofs.laws.drivers_forget.Goals as goal

pub returns : goal.returns
returns g c = drivers-forget g.of.design g.of.order g.of.choice g.of.one g.of.other c.requires.0 c.requires.1.0 c.requires.1.1
