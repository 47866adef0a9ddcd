use Rattle.std.proofs.Common.{take}
use Rattle.std.specs.List.{list_any}
use Rattle.place_functions.specs.Notes.{AddsNotes}
use Rattle.place_functions.specs.Operands.{driver_uses}
use Rattle.place_functions.proofs.note_places.note_drivers.Given as goal

abbrev pub invariant-loop-driver : goal.invariant-loop-driver
invariant-loop-driver l = AddsNotes l.initial.notes.items l.notes.items (λ p s b. list_any (λ y. driver_uses l.signals p s b y) (take l.driver-index l.drivers))
