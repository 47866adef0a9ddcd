use Rattle.std.proofs.Common.{◌&&◌}
use Rattle.std.specs.Prelude.{◌==◌}
use Rattle.place_functions.specs.Notes.{AddsBits, between}
use Rattle.place_functions.proofs.note_bits.add_signal.Given as goal

abbrev pub invariant-loop-position : goal.invariant-loop-position
invariant-loop-position l = AddsBits l.initial.bits.items l.bits.items (λ s b. (l.signal == s) && between l.fn.note.from l.position b)
