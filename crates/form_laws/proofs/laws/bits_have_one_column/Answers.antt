use Rattle.form_laws.proofs.Equivalence.{columns}
use Rattle.form_laws.proofs.laws.bits_have_one_column.Goals as goal

pub returns : goal.returns
returns g c = columns g.of c.requires
