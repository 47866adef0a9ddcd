use Rattle.card_counter.proofs.Counting.{few-meet}
use Rattle.card_counter.proofs.laws.few_meet_the_bound.Goals as goal

pub returns : goal.returns
returns g c = few-meet g.of c.requires.0 c.requires.1.0 c.requires.1.1.0 c.requires.1.1.1
