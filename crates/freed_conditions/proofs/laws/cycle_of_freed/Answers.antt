use Rattle.freed_conditions.proofs.Beside.{beside}
use Rattle.freed_conditions.proofs.CycleFreed.{old-agrees, cycle-old}
use Rattle.freed_conditions.specs.Old.{old_bits}
use Rattle.freed_conditions.proofs.laws.cycle_of_freed.Goals as goal

pub returns : goal.returns
returns g c =
    cycle-old g.two.of.design g.two.of.freed g.two.choice (beside g.two.of.design g.two.of.freed c.requires.0 c.requires.1.0 g.two.choice c.requires.1.1.0)
    g.two.samples (old_bits g.two.of.design g.two.state) g.two.state g.two.values g.two.next (old-agrees g.two.of.design g.two.state) c.requires.1.1.1
