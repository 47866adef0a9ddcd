use Rattle.std.proofs.Common.{◌∙◌, ap}
use Rattle.std.specs.Prelude.{if◌then◌else◌}
use Rattle.design_core.specs.Valuation.{Valuation}
use Rattle.design_core.specs.Drives.{is_listed}
use Rattle.design_core.specs.Cycle.{sampled}
use Rattle.cycle_sim.proofs.begin.begin.Goals as goal

pub returns-clause-value : goal.returns-clause-value
returns-clause-value c s b =
    c.load-2.ensures.value s b
    ∙ ap (λ (X : Valuation). if is_listed c.args.design.now s then sampled c.args.design.now.inputs.items c.args.samples.now s
    b else X s b) c.load.ensures.value
