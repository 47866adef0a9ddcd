use Rattle.freed_conditions.proofs.ListFreed.{cycle-new}
use Rattle.freed_conditions.proofs.OrderFreed.{runnable-freed}
use Rattle.freed_conditions.proofs.laws.cycle_of_design.Goals as goal

pub returns : goal.returns
returns g c =
    let d = g.two.of.design in
    let e = g.two.of.freed in
    let order = g.two.of.order in
    cycle-new d e order order c.requires.0 (runnable-freed d e order c.requires.0 c.requires.1.0) c.requires.1.0 g.two.choice c.requires.1.1.0
    g.two.samples g.two.state g.two.values g.two.next c.requires.1.1.1
