use Rattle.std.proofs.Common.{◌&&◌, ◌==◌, take}
use Rattle.std.specs.List.{list_any}
use Rattle.design_bits.specs.Masks.{Adds, has}
use Rattle.design_rules.proofs.tally.join_common.Given as goal

abbrev pub invariant-loop-signal : goal.invariant-loop-signal
invariant-loop-signal l = Adds l.initial.twice l.twice (λ s b. list_any (λ t. t == s) (take l.signal-index l.signal-items) && (has l.once s b && has l.own s b))
