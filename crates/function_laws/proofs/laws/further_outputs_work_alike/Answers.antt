use Rattle.function_laws.proofs.Further.{work-alike}
use Rattle.function_laws.proofs.laws.further_outputs_work_alike.Goals as goal

pub returns : goal.returns
returns g c = work-alike g.of c.requires
