use Rattle.v_synth.proofs.Whole.{net-fits}
use Rattle.v_synth.proofs.laws.net_fits.Goals as goal

pub returns : goal.returns
returns g c = net-fits g.of.design g.of.order g.of.samples g.of.state g.of.choice c.requires.0 c.requires.1.0 c.requires.1.1
