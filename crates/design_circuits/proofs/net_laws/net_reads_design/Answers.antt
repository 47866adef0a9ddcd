use Rattle.design_circuits.proofs.NetReadsDesign.{net-reads, net-places}
use Rattle.design_circuits.proofs.net_laws.net_reads_design.Goals as goal

pub returns-clause-reads : goal.returns-clause-reads
returns-clause-reads g c = net-reads g.of.design g.of.order c.requires.0 c.requires.1.1

pub returns-clause-places : goal.returns-clause-places
returns-clause-places g c = net-places g.of.design g.of.order c.requires.0 c.requires.1.1
