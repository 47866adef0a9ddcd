use Rattle.std.proofs.Common.{rules, ap, ◌∙◌}
use Rattle.design_core.specs.declared.design.Design.{Design}
use Rattle.design_core.specs.Valuation.{width_at}
use Rattle.cycle_sim.specs.Simulator.{held_by}
use Rattle.sim_lines.proofs.ShownLaws.{output-pushed}
use Rattle.sim_lines.proofs.lines.push_output.Goals as goal

pub returns : goal.returns
returns c =
    output-pushed c.args.design.now.signals.items (held_by c.args.sim.now).values c.args.output c.value.result c.args.text.now.items c.push_bytes.new.text.items
    c.push_name.new.text.items c.push_bytes-2.new.text.items c.push_value.new.text.items (search rules) (search rules) (search rules) (search rules)
    (c.value.ensures.width ∙ ap (λ (d : Design). width_at d.signals.items c.args.output) c.requires.design) c.value.ensures.bits
