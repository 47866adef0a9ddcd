use Rattle.std.proofs.Common.{◌≡◌, ◌≤◌, take}
use Rattle.clause_form.specs.Clauses.{literals_in}
use Rattle.clause_form.proofs.sink.literals_of.Given as goal

abbrev pub invariant-loop-place : goal.invariant-loop-place
invariant-loop-place l = record {
  counted : l.count ≡ literals_in (take l.place l.clauses);
  few : l.count ≤ 64000000;
}
