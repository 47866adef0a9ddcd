use Rattle.bit_words.proofs.WordLaws.{sum-law, difference-law, minus-law}
use Rattle.bit_words.proofs.laws.sums_mean.Goals as goal

pub returns : goal.returns
returns g c = record {
  sum = sum-law c.requires.0 c.requires.1.0 c.requires.1.1.1 c.requires.1.1.0;
  difference = difference-law c.requires.0 c.requires.1.0 c.requires.1.1.1;
  minus = minus-law c.requires.0;
}
