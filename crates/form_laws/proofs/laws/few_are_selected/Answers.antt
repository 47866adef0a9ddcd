use Rattle.form_laws.proofs.Equivalence.{few-are}
use Rattle.form_laws.proofs.laws.few_are_selected.Goals as goal

pub returns : goal.returns
returns g c = few-are g.of c.requires
