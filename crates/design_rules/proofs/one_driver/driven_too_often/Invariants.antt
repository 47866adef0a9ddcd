use Rattle.std.proofs.Common.{◌≡◌, ◌+◌, take, length, count_by}
use Rattle.design_core.specs.Drives.{driver_drives, block_drives}
use Rattle.design_core.specs.WellFormed.{input_fits}
use Rattle.design_rules.specs.Tallies.{IsTallied}
use Rattle.design_rules.proofs.one_driver.driven_too_often.Given as goal

abbrev pub invariant-loop-driver : goal.invariant-loop-driver
invariant-loop-driver l =
    let signals = l.design.signals.items in
    (length l.own ≡ length signals)
    × IsTallied (input_fits signals) (λ s b. count_by (driver_drives signals s b) (take l.driver-index l.design.drivers.items)) (length signals) l.once.items l.twice.items

abbrev pub invariant-loop-block : goal.invariant-loop-block
invariant-loop-block l =
    let signals = l.design.signals.items in
    (length l.own ≡ length signals)
    × IsTallied (input_fits signals) (λ s b. count_by (driver_drives signals s b) l.design.drivers.items + count_by (block_drives signals s b) (take l.block-index l.design.clocked.items))
    (length signals) l.once.items l.twice.items
