use Rattle.function_laws.proofs.Join.{encodes-functions}
use Rattle.function_laws.proofs.laws.form_encodes_functions.Goals as goal

pub returns : goal.returns
returns g c = encodes-functions g.of c.requires
