use Rattle.card_counter.proofs.Counting.{met-by-few}
use Rattle.card_counter.proofs.laws.the_bound_is_met_by_few.Goals as goal

pub returns : goal.returns
returns g c = met-by-few g.of c.requires.0 c.requires.1.0 c.requires.1.1.0 c.requires.1.1.1
