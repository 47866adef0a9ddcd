use Rattle.design_circuits.proofs.Explaining.{explains, values-are}
use Rattle.design_circuits.proofs.NetReads.{places, reads}
use Rattle.design_circuits.proofs.laws.model_explains.Goals as goal

pub returns-clause-values : goal.returns-clause-values
returns-clause-values g c =
    values-are g.of c.requires.0 c.requires.1 (reads g.of.asked.of c.requires.0.of_net) (places g.of.asked.of c.requires.0.of_net)

pub returns-clause-explains : goal.returns-clause-explains
returns-clause-explains g c =
    explains g.of c.requires.0 c.requires.1 (reads g.of.asked.of c.requires.0.of_net) (places g.of.asked.of c.requires.0.of_net)
