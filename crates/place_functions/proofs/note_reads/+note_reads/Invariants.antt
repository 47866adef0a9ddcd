use Rattle.std.proofs.Common.{take}
use Rattle.std.specs.List.{list_any}
use Rattle.design_core.specs.Reads.{reads}
use Rattle.place_functions.specs.Notes.{AddsNotes, of_place}
use Rattle.place_functions.proofs.note_reads.+note_reads.Given as goal

abbrev pub invariant-note_all-loop-part : goal.invariant-note_all-loop-part
invariant-note_all-loop-part l =
    AddsNotes l.initial.notes.items l.notes.items (of_place l.place (λ s b. list_any (λ part. reads l.signals s b part) (take l.part-index l.parts)))
