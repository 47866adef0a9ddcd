use Rattle.form_laws.proofs.Equivalence.{is-within}
use Rattle.form_laws.proofs.laws.variables_are_within.Goals as goal

pub returns : goal.returns
returns g c = is-within g.of c.requires
