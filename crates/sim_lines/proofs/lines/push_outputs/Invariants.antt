use Rattle.std.proofs.Common.{◌≡◌, ◌++◌, take}
use Rattle.std.specs.List.{flat_map}
use Rattle.cycle_sim.specs.Simulator.{held_by}
use Rattle.sim_lines.specs.Lines.{shown, shown_text}
use Rattle.sim_lines.proofs.lines.push_outputs.Given as goal

abbrev pub invariant-loop-output : goal.invariant-loop-output
invariant-loop-output l =
    l.text.items ≡ l.initial.text.items ++ flat_map (λ s. shown_text (shown l.design.signals.items (held_by l.sim).values s)) (take l.output-index l.outputs)
