use Rattle.std.proofs.Common.{◌&&◌}
use Rattle.std.specs.Prelude.{nat_lt}
use Rattle.design_core.specs.Drives.{is_among}
use Rattle.design_core.specs.Valuation.{width_at}
use Rattle.place_functions.specs.Notes.{AddsBits, between}
use Rattle.place_functions.proofs.note_bits.add_note.Given as goal

abbrev pub invariant-loop-signal : goal.invariant-loop-signal
invariant-loop-signal l =
    AddsBits l.initial.bits.items l.bits.items
    (λ s b. between l.note.first l.signal s && (is_among l.note.from l.note.width b && nat_lt b (width_at l.signals s)))
