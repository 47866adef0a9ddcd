use Rattle.std.proofs.Common.{◌≡◌, ◌≤◌, take}
use Rattle.clause_form.specs.Variables.{bits_in}
use Rattle.clause_form.proofs.most.bits_in.Given as goal

abbrev pub invariant-loop-i : goal.invariant-loop-i
invariant-loop-i l = record {
  is : l.bits ≡ bits_in (take l.i l.words);
  few : l.bits ≤ 64000000;
}
