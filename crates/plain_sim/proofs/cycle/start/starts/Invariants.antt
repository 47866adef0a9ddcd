use Rattle.std.proofs.Common.{◌≡◌, map, take}
use Rattle.plain_sim.proofs.cycle.start.starts.Given as goal

abbrev pub invariant-loop-signal : goal.invariant-loop-signal
invariant-loop-signal l = l.words.items ≡ map (λ s. s.start) (take l.signal-index l.design.signals.items)
