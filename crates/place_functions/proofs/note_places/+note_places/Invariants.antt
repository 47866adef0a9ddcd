use Rattle.std.proofs.Common.{take}
use Rattle.std.specs.List.{list_any}
use Rattle.place_functions.specs.Notes.{AddsNotes}
use Rattle.place_functions.specs.Operands.{statement_uses, item_uses}
use Rattle.place_functions.proofs.note_places.+note_places.Given as goal

abbrev pub invariant-note_statements-loop-statement : goal.invariant-note_statements-loop-statement
invariant-note_statements-loop-statement l =
    AddsNotes l.initial.notes.items l.notes.items (λ p s b. list_any (λ y. statement_uses l.signals p s b y) (take l.statement-index l.statements))

abbrev pub invariant-note_items-loop-item : goal.invariant-note_items-loop-item
invariant-note_items-loop-item l = AddsNotes l.initial.notes.items l.notes.items (λ p s b. list_any (λ y. item_uses l.signals p s b y) (take l.item-index l.items))
