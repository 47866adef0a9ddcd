use Rattle.bit_words.proofs.ShiftLaws.{top-word}
use Rattle.bit_words.proofs.laws.top_bit_means.Goals as goal

pub returns : goal.returns
returns g c = top-word c.requires.0 c.requires.1
