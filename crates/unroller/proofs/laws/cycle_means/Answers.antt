use Rattle.unroller.proofs.CycleLaws.{cycle-grown, cycle-literals, cycle-next}
use Rattle.unroller.proofs.laws.cycle_means.Goals as goal

pub returns : goal.returns
returns g c = record {
  grown = cycle-grown g.of c.requires.0 c.requires.1;
  literals = cycle-literals g.of c.requires.0 c.requires.1;
  next = cycle-next g.of c.requires.0 c.requires.1;
}
