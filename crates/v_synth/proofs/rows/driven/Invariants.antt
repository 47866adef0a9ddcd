use Rattle.std.proofs.Common.{take, length, replicate}
use Rattle.std.specs.List.{list_any}
use Rattle.design_core.specs.Drives.{driver_drives}
use Rattle.design_bits.specs.Masks.{Adds}
use Rattle.v_synth.proofs.rows.driven.Given as goal

abbrev pub invariant-loop-i : goal.invariant-loop-i
invariant-loop-i l = Adds (replicate (length l.design.signals.items) 0) l.set (λ s b. list_any (driver_drives l.design.signals.items s b) (take l.i l.design.drivers.items))
