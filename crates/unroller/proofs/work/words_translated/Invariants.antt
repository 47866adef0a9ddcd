use Rattle.std.proofs.Common.{◌≡◌, ◌++◌, drop}
use Rattle.unroller.specs.Cycles.{words_translated}
use Rattle.unroller.proofs.work.words_translated.Given as goal

abbrev pub invariant-loop-i : goal.invariant-loop-i
invariant-loop-i l = l.fn.made ++ words_translated l.now l.words ≡ l.made ++ words_translated l.now (drop l.i l.words)
