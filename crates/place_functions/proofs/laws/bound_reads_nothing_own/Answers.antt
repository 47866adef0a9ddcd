use Rattle.place_functions.proofs.OperandsWithin.{bound-says}
use Rattle.place_functions.proofs.laws.bound_reads_nothing_own.Goals as goal

pub returns : goal.returns
returns g c = bound-says g.of.design g.of.place g.of.signal g.of.position c.requires.0 c.requires.1.0 c.requires.1.1
