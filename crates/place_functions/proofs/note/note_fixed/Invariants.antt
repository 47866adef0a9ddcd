use Rattle.std.proofs.Common.{take}
use Rattle.std.specs.Prelude.{◌==◌, ◌&&◌}
use Rattle.loc_base.specs.Bits.{width_of, value_of}
use Rattle.design_core.specs.Operator.{integer_of}
use Rattle.design_core.specs.Pick.{has_bit}
use Rattle.place_functions.specs.Notes.{AddsNotes, of_place}
use Rattle.place_functions.proofs.note.note_fixed.Given as goal

abbrev pub invariant-loop-offset : goal.invariant-loop-offset
invariant-loop-offset l =
    AddsNotes l.initial.notes.items l.notes.items
    (of_place l.fixed.place
    (λ s b. s == l.fixed.signal && has_bit l.signals l.fixed.signal (integer_of l.fixed.signed (width_of l.fixed.index) (value_of l.fixed.index)) (take l.offset-index l.offsets) b))
