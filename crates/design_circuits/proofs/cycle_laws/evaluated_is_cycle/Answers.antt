use Rattle.design_circuits.proofs.Sources.{evaluated-outputs, evaluated-next}
use Rattle.design_circuits.proofs.cycle_laws.evaluated_is_cycle.Goals as goal

pub returns-clause-outputs : goal.returns-clause-outputs
returns-clause-outputs g c = evaluated-outputs g.of c.requires.0 c.requires.1.0 c.requires.1.1.0 c.requires.1.1.1.0 c.requires.1.1.1.1.0 c.requires.1.1.1.1.1.0 c.requires.1.1.1.1.1.1.0 c.requires.1.1.1.1.1.1.1

pub returns-clause-next : goal.returns-clause-next
returns-clause-next g c = evaluated-next g.of c.requires.0 c.requires.1.0 c.requires.1.1.0 c.requires.1.1.1.0 c.requires.1.1.1.1.0 c.requires.1.1.1.1.1.0 c.requires.1.1.1.1.1.1.0 c.requires.1.1.1.1.1.1.1
