use Rattle.card_counter.proofs.Counting.{is-counter}
use Rattle.card_counter.proofs.laws.clauses_count.Goals as goal

pub returns : goal.returns
returns g c = is-counter g.of.first g.of.k g.of.selectors c.requires
