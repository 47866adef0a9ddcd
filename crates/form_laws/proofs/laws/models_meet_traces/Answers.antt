use Rattle.form_laws.proofs.Equivalence.{models-meet}
use Rattle.form_laws.proofs.laws.models_meet_traces.Goals as goal

pub returns : goal.returns
returns g c = models-meet g.of c.requires
