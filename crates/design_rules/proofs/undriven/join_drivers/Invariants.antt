use Rattle.std.proofs.Common.{◌≡◌, take, length}
use Rattle.std.specs.List.{list_any}
use Rattle.design_core.specs.Drives.{driver_drives}
use Rattle.design_bits.specs.Masks.{Adds}
use Rattle.design_rules.proofs.undriven.join_drivers.Given as goal

abbrev pub invariant-loop-driver : goal.invariant-loop-driver
invariant-loop-driver l =
    (length l.own ≡ length l.initial.own) × (length l.table.items ≡ length l.own)
    × Adds l.initial.table.items l.table.items (λ s b. list_any (λ y. driver_drives l.design.signals.items s b y) (take l.driver-index l.design.drivers.items))
