use Rattle.std.proofs.Common.{take, ◌&&◌}
use Rattle.std.specs.Prelude.{not}
use Rattle.std.specs.List.{list_any}
use Rattle.design_core.specs.Mentions.{driver_mentions}
use Rattle.design_bits.specs.Masks.{Adds, has}
use Rattle.design_rules.proofs.undriven.add_drivers_reads.Given as goal

abbrev pub invariant-loop-driver : goal.invariant-loop-driver
invariant-loop-driver l = Adds l.initial.used l.used (λ s b. list_any (λ y. driver_mentions l.design.signals.items s b y) (take l.driver-index l.design.drivers.items) && not (has l.driven s b))
