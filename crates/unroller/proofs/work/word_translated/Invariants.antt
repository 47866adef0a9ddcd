use Rattle.std.proofs.Common.{◌≡◌, ◌++◌, map, drop}
use Rattle.unroller.specs.Cycles.{translated}
use Rattle.unroller.proofs.work.word_translated.Given as goal

abbrev pub invariant-loop-i : goal.invariant-loop-i
invariant-loop-i l = map (translated l.now) l.word ≡ l.made.items ++ map (translated l.now) (drop l.i l.word)
