use Rattle.std.proofs.Common.{◌≡◌}
use Rattle.card_counter.specs.Places.{starts}
use Rattle.card_counter.proofs.place.start_of.Given as goal

abbrev pub invariant-loop-before : goal.invariant-loop-before
invariant-loop-before l = l.start ≡ starts l.k l.before
