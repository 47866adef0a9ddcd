use Rattle.std.proofs.Common.{◌≡◌, ◌++◌, map, take}
use Rattle.vcd_waves.specs.Lines.{expected}
use Rattle.cycle_sim.specs.Simulator.{held_by}
use Rattle.set_waves.specs.Scenes.{given}
use Rattle.set_waves.proofs.outputs.push_outputs.Given as goal

abbrev pub invariant-loop-output : goal.invariant-loop-output
invariant-loop-output l =
    map expected l.entries.items
    ≡ map expected l.initial.entries.items ++ map (given l.design (held_by l.sim).values) (take l.output-index l.design.outputs.items)
