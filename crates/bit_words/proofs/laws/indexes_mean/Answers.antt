use Rattle.std.proofs.Common.{false}
use Rattle.gate_base.proofs.Meaning.{known-means}
use Rattle.bit_words.proofs.IndexLaws.{pick-means, put-means}
use Rattle.bit_words.proofs.laws.indexes_mean.Goals as goal

pub returns : goal.returns
returns g c = record {
  pick = pick-means g.of.literals g.of.names (known-means g.of.source g.of.nodes false) c.requires.0 c.requires.1.0 c.requires.1.1.1;
  put = put-means g.of.literals g.of.names c.requires.1.1.0 c.requires.0 c.requires.1.0 c.requires.1.1.1;
}
