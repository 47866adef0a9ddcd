use Rattle.form_laws.proofs.Equivalence.{encodes}
use Rattle.form_laws.proofs.laws.form_encodes_sets.Goals as goal

pub returns : goal.returns
returns g c = encodes g.of c.requires
