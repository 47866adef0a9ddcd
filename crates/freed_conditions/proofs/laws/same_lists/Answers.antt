use Rattle.std.specs.Prelude.{ℕ, List}
use Rattle.design_core.specs.Works.{Works}
use Rattle.freed_conditions.proofs.RunFreed.{works-old, works-new}
use Rattle.freed_conditions.proofs.ListFreed.{list-alike, front-alike}
use Rattle.freed_conditions.proofs.OrderFreed.{runnable-freed}
use Rattle.freed_conditions.proofs.laws.same_lists.Goals as goal

pub returns : goal.returns
returns g c =
    let d = g.two.of.design in
    let e = g.two.of.freed in
    let order = g.two.of.order in
    let own : List ℕ → Type 0 = Works d g.two.traces g.two.groups in
    let other : List ℕ → Type 0 = Works e g.two.traces g.two.groups in
    let to : (set : List ℕ) → own set → other set = λ set works.
    works-new d e order order c.requires.0 (runnable-freed d e order c.requires.0 c.requires.1.0) c.requires.1.0 g.two.traces g.two.groups c.requires.1.1 set works in
    let from : (set : List ℕ) → other set → own set = λ set works.
    works-old d e c.requires.0.well_formed c.requires.1.0 g.two.traces g.two.groups c.requires.1.1 set works in
    record {
      works = (to g.two.set, from g.two.set);
      list = (list-alike own other to from g.two.groups g.two.size g.two.sets, list-alike other own from to g.two.groups g.two.size g.two.sets);
      front = (front-alike own other to from g.two.groups g.two.size g.two.sets, front-alike other own from to g.two.groups g.two.size g.two.sets);
    }
