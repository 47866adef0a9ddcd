use Rattle.note_text.proofs.Counting.{Going}
use Rattle.note_text.proofs.place.place_at.Given as goal

abbrev pub invariant-loop-k : goal.invariant-loop-k
invariant-loop-k l = Going l.text l.k l.place
