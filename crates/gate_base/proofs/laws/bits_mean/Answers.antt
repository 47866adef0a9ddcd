use Rattle.gate_base.proofs.Meaning.{input-means, state-means, free-means}
use Rattle.gate_base.proofs.laws.bits_mean.Goals as goal

pub returns : goal.returns
returns g c = record {
  input = input-means g.of.source g.of.nodes g.of.number g.of.bit;
  state = state-means g.of.source g.of.nodes g.of.number g.of.bit;
  free = free-means g.of.moment g.of.number g.of.bit c.requires;
}
