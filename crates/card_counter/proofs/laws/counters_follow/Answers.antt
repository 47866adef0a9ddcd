use Rattle.card_counter.proofs.InForms.{follows}
use Rattle.card_counter.proofs.laws.counters_follow.Goals as goal

pub returns : goal.returns
returns g c = follows g.of.n g.of.k g.of.vars g.of.form g.of.assignment c.requires.0 c.requires.1
