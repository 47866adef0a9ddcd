use Rattle.std.proofs.Common.{take}
use Rattle.std.specs.List.{list_any}
use Rattle.place_functions.specs.Notes.{AddsNotes}
use Rattle.place_functions.specs.Operands.{block_uses}
use Rattle.place_functions.proofs.note_places.note_blocks.Given as goal

abbrev pub invariant-loop-block : goal.invariant-loop-block
invariant-loop-block l = AddsNotes l.initial.notes.items l.notes.items (λ p s b. list_any (λ y. block_uses l.signals p s b y) (take l.block-index l.blocks))
