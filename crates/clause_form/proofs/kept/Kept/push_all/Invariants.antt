use Rattle.std.proofs.Common.{◌≡◌, ◌++◌, length, take}
use Rattle.clause_form.specs.Named.{named_from}
use Rattle.clause_form.proofs.kept.Kept.push_all.Given as goal

abbrev pub invariant-loop-place : goal.invariant-loop-place
invariant-loop-place l = record {
  clauses : l.self.clauses ≡ l.fn.self.clauses ++ named_from l.fn.self.named (length l.fn.self.clauses) (take l.place l.clauses);
  named : l.self.named ≡ l.fn.self.named;
}
