use Rattle.std.proofs.Common.{◌≡◌, ◌≤◌, drop}
use Rattle.clause_form.specs.Variables.{size_of}
use Rattle.clause_form.proofs.SinkSteps.{more}
use Rattle.clause_form.proofs.sink.size.Given as goal

abbrev pub invariant-loop-i : goal.invariant-loop-i
invariant-loop-i l = record {
  sized : size_of l.all ≡ more l.count (size_of (drop l.i l.all));
  few : l.count ≤ l.i;
}
