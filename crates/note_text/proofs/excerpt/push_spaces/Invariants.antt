use Rattle.std.proofs.Common.{◌≡◌, ◌++◌, replicate}
use Rattle.note_text.proofs.excerpt.push_spaces.Given as goal

abbrev pub invariant-loop-k : goal.invariant-loop-k
invariant-loop-k l = l.text.items ≡ l.initial.text.items ++ replicate l._k 32
