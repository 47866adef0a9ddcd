use Rattle.plain_list.specs.Trial.{AreNumbersFor}
use Rattle.plain_list.proofs.explain.zero_all.Given as goal

abbrev pub invariant-loop-i : goal.invariant-loop-i
invariant-loop-i l = AreNumbersFor l.d l.places l.numbers
