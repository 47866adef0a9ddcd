use Rattle.design_circuits.proofs.FreeBits.{each-place}
use Rattle.design_circuits.proofs.NetReads.{places}
use Rattle.design_circuits.proofs.laws.places_are_free_bits.Goals as goal

pub returns : goal.returns
returns g c = each-place g.of c.requires (places g.of c.requires)
