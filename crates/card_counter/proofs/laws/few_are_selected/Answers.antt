use Rattle.card_counter.proofs.InForms.{few-selected}
use Rattle.card_counter.proofs.laws.few_are_selected.Goals as goal

pub returns : goal.returns
returns g c =
    few-selected g.of.n g.of.k g.of.vars g.of.form g.of.assignment c.requires.0 c.requires.1.0 g.of.j c.requires.1.1.0 c.requires.1.1.1.0 c.requires.1.1.1.1
