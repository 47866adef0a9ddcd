use Rattle.form_laws.proofs.Equivalence.{has-counter}
use Rattle.form_laws.proofs.laws.form_has_its_counter.Goals as goal

pub returns : goal.returns
returns g c = has-counter g.of c.requires
