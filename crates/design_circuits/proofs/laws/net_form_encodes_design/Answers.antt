use Rattle.design_circuits.proofs.Asked.{encodes}
use Rattle.design_circuits.proofs.NetReads.{reads}
use Rattle.design_circuits.proofs.laws.net_form_encodes_design.Goals as goal

pub returns : goal.returns
returns g c = encodes g.of c.requires (reads g.of.of c.requires.of_net)
