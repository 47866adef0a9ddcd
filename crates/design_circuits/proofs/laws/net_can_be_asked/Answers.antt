use Rattle.design_circuits.proofs.Asked.{can-be-asked, is-of_design}
use Rattle.design_circuits.proofs.NetReads.{reads}
use Rattle.design_circuits.proofs.laws.net_can_be_asked.Goals as goal

pub returns-clause-circuit : goal.returns-clause-circuit
returns-clause-circuit g c = can-be-asked g.of c.requires (reads g.of.of c.requires.of_net)

pub returns-clause-design : goal.returns-clause-design
returns-clause-design g c = is-of_design g.of c.requires (reads g.of.of c.requires.of_net)
