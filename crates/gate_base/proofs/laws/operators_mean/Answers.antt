use Rattle.gate_base.proofs.Meaning.{opposite-means, and-means, or-means, xor-means, mux-means}
use Rattle.gate_base.proofs.laws.operators_mean.Goals as goal

pub returns : goal.returns
returns g c = record {
  opposite = opposite-means c.requires.1.0;
  and = and-means c.requires.1.0 c.requires.1.1;
  or = or-means c.requires.1.0 c.requires.1.1;
  xor = xor-means c.requires.1.0 c.requires.1.1;
  mux = mux-means c.requires.0 c.requires.1.0 c.requires.1.1;
}
