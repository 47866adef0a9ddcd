use Rattle.design_circuits.proofs.Asked.{asked-places}
use Rattle.design_circuits.proofs.NetReads.{places, reads}
use Rattle.design_circuits.proofs.laws.suspects_are_places.Goals as goal

pub returns : goal.returns
returns g c =
    asked-places g.of c.requires.0 (reads g.of.of c.requires.0.of_net) (places g.of.of c.requires.0.of_net) c.requires.1
