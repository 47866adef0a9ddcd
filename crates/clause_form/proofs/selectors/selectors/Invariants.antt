use Rattle.std.proofs.Common.{◌≡◌, ◌+◌, ◌-◌, ◌++◌}
use Rattle.card_counter.specs.InForm.{literals_from}
use Rattle.clause_form.proofs.selectors.selectors.Given as goal

abbrev pub invariant-loop-i : goal.invariant-loop-i
invariant-loop-i l = literals_from 1 l.suspects ≡ l.all ++ literals_from (l.i + 1) (l.suspects - l.i)
