use Rattle.design_core.specs.Words.{AreWordsOf}
use Rattle.plain_list.proofs.Sampling.{ZeroBefore}
use Rattle.plain_list.proofs.samples.clear.Given as goal

abbrev pub invariant-loop-i : goal.invariant-loop-i
invariant-loop-i l = AreWordsOf l.signals l.words × ZeroBefore l.i l.words
