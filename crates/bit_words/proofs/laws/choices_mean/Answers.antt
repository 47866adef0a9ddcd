use Rattle.bit_words.proofs.WordLaws.{choice-law, bitwise-law}
use Rattle.bit_words.proofs.laws.choices_mean.Goals as goal

pub returns : goal.returns
returns g c = record {
  choice = choice-law c.requires.0 c.requires.1.0 c.requires.1.1.1 c.requires.1.1.0;
  bitwise = bitwise-law c.requires.0 c.requires.1.0 c.requires.1.1.1 g.of.operator;
}
