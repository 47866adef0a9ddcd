use Rattle.std.proofs.Common.{◌&&◌, take}
use Rattle.std.specs.Prelude.{nat_lt}
use Rattle.design_core.specs.Valuation.{width_at}
use Rattle.place_functions.specs.Notes.{AddsBits, some_reads}
use Rattle.place_functions.proofs.note_bits.add_notes.Given as goal

abbrev pub invariant-loop-note : goal.invariant-loop-note
invariant-loop-note l =
    AddsBits l.initial.bits.items l.bits.items (λ s b. some_reads (take l.note-index l.notes) s b && nat_lt b (width_at l.signals s))
