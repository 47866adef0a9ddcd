use Rattle.design_core.specs.Valuation.{Valuation}
use Rattle.design_core.specs.Steps.{computed_now, computed_next}
use Rattle.design_core.proofs.CycleExists.{cycle-exists}
use Rattle.design_core.proofs.laws.some_cycle.Goals as goal

pub returns : goal.returns
returns g c =
    let V : Valuation = computed_now g.of.design g.of.order g.of.samples g.of.state g.of.choice in (
      V,
      computed_next g.of.design g.of.state g.of.choice V,
      cycle-exists g.of.design g.of.order c.requires.0 c.requires.1.0 c.requires.1.1 g.of.samples g.of.state g.of.choice,
    )
