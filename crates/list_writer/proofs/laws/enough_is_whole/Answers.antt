use Rattle.list_writer.proofs.Whole.{enough-whole}
use Rattle.list_writer.proofs.laws.enough_is_whole.Goals as goal

pub returns : goal.returns
returns g c = enough-whole g.of c.requires.0 c.requires.1.0 c.requires.1.1
