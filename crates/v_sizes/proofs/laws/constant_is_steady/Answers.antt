use Rattle.v_sizes.proofs.Steady.{sizing-steady}
use Rattle.v_sizes.proofs.laws.constant_is_steady.Goals as goal

pub returns : goal.returns
returns g c V = sizing-steady g.of.look g.of.e c.requires V g.of.width g.of.signed
