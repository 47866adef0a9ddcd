use Rattle.plain_list.proofs.Networks.{network-of}
use Rattle.plain_list.proofs.laws.is_network.Goals as goal

pub returns : goal.returns
returns c = network-of c.args._design.now c.args._order.now c.requires.well_formed c.requires.assignments c.requires.order
