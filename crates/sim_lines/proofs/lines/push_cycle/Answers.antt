use Rattle.std.proofs.Common.{rules}
use Rattle.cycle_sim.specs.Simulator.{held_by}
use Rattle.sim_lines.proofs.ShownLaws.{cycle-pushed}
use Rattle.sim_lines.proofs.lines.push_cycle.Goals as goal

pub returns : goal.returns
returns c =
    cycle-pushed c.args.design.now.signals.items (held_by c.args.sim.now).values c.args.design.now.outputs.items c.args.moment.trace c.args.moment.cycle
    c.args.text.now.items c.push_number.new.text.items c.push_bytes.new.text.items c.push_number-2.new.text.items c.push_outputs.new.text.items
    c.push_bytes-2.new.text.items (search rules) (search rules) (search rules) (search rules) (search rules)
