use Rattle.log_portions.proofs.Writable.{written}
use Rattle.log_portions.proofs.laws.can_be_written.Goals as goal

pub returns : goal.returns
returns g c = written g.of c.requires
