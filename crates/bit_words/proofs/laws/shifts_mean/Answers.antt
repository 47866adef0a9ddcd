use Rattle.bit_words.proofs.ShiftLaws.{shift-law}
use Rattle.bit_words.proofs.laws.shifts_mean.Goals as goal

pub returns : goal.returns
returns g c = shift-law g.of.direction c.requires.1.1.1 c.requires.0 c.requires.1.0 c.requires.1.1.0
