use Rattle.design_circuits.proofs.Sources.{evaluated-outputs, evaluated-next, widths-given}
use Rattle.design_circuits.proofs.cycle_laws.design_cycle_evaluated.Goals as goal

pub returns-clause-given : goal.returns-clause-given
returns-clause-given g c = widths-given g.of c.requires.0 c.requires.1.1.0 c.requires.1.1.1.0 c.requires.1.1.1.1.1.1

pub returns-clause-outputs : goal.returns-clause-outputs
returns-clause-outputs g c known =
    evaluated-outputs g.of c.requires.0 c.requires.1.0 c.requires.1.1.0 c.requires.1.1.1.0 c.requires.1.1.1.1.0 c.requires.1.1.1.1.1.0
    (widths-given g.of c.requires.0 c.requires.1.1.0 c.requires.1.1.1.0 c.requires.1.1.1.1.1.1) known

pub returns-clause-next : goal.returns-clause-next
returns-clause-next g c known =
    evaluated-next g.of c.requires.0 c.requires.1.0 c.requires.1.1.0 c.requires.1.1.1.0 c.requires.1.1.1.1.0 c.requires.1.1.1.1.1.0
    (widths-given g.of c.requires.0 c.requires.1.1.0 c.requires.1.1.1.0 c.requires.1.1.1.1.1.1) known
