use Rattle.plain_list.proofs.Inclusion.{ContainsNoneBefore}
use Rattle.plain_list.proofs.subsets.contains_one.Given as goal

abbrev pub invariant-loop-listed : goal.invariant-loop-listed
invariant-loop-listed l = ContainsNoneBefore l.found l.set l.listed-index
