use Rattle.bit_words.proofs.WordLaws.{equal-law, less-law}
use Rattle.bit_words.proofs.laws.comparisons_mean.Goals as goal

pub returns : goal.returns
returns g c = record {
  equal = equal-law c.requires.0 c.requires.1.0 c.requires.1.1.0;
  less = less-law c.requires.0 c.requires.1.0 c.requires.1.1.0 g.of.signed c.requires.1.1.1;
}
