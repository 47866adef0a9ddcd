-- What the net of a design reads, where the net is given as code has it.
use Rattle.std.proofs.Common.{sym, subst}
use Rattle.design_circuits.specs.Reads.{AllReadDesign, HasEachPlace}
use Rattle.design_circuits.proofs.NetReadsDesign.{net-places, net-reads}
use Rattle.design_circuits.specs.Reading.{IsOfNet, OfNet}

pub reads : (of : OfNet) → IsOfNet of → AllReadDesign of.design of.net.nodes
reads of is = subst (AllReadDesign of.design) (sym is.of_design.nodes) (net-reads of.design of.order is.well_formed is.order)

pub places : (of : OfNet) → IsOfNet of → HasEachPlace of.design of.net.nodes
places of is = subst (HasEachPlace of.design) (sym is.of_design.nodes) (net-places of.design of.order is.well_formed is.order)
