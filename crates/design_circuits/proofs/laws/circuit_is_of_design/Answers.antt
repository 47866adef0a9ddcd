use Rattle.design_circuits.proofs.Cycles.{is-circuit}
use Rattle.design_circuits.proofs.NetReads.{reads}
use Rattle.design_circuits.proofs.laws.circuit_is_of_design.Goals as goal

pub returns : goal.returns
returns g c = is-circuit g.of c.requires (reads g.of c.requires)
