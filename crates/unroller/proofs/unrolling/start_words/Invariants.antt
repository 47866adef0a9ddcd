use Rattle.std.proofs.Common.{◌≡◌, map, take}
use Rattle.unroller.specs.Unrolls.{constant_word}
use Rattle.unroller.proofs.unrolling.start_words.Given as goal

abbrev pub invariant-loop-i : goal.invariant-loop-i
invariant-loop-i l = l.words ≡ map constant_word (take l.i l.start)
