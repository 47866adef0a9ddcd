use Rattle.v_synth.proofs.Whole.{net-matches}
use Rattle.v_synth.proofs.laws.net_matches.Goals as goal

pub returns : goal.returns
returns g c = net-matches g.of c.requires.0 c.requires.1.0 c.requires.1.1.0 c.requires.1.1.1
