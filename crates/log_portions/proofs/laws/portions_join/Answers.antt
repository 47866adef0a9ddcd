use Rattle.log_portions.proofs.Joined.{join}
use Rattle.log_portions.proofs.laws.portions_join.Goals as goal

pub returns : goal.returns
returns c = join
