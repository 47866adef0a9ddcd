use Rattle.plain_list.proofs.Numbers.{IsNotBefore}
use Rattle.plain_list.proofs.settle.number_for.Given as goal

abbrev pub invariant-loop-i : goal.invariant-loop-i
invariant-loop-i l = IsNotBefore l.places l.i l.place
