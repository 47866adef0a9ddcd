use Rattle.std.proofs.Common.{◌≡◌, drop}
use Rattle.clause_form.specs.Clauses.{word_clauses}
use Rattle.clause_form.specs.Fields.{after, sunk_of}
use Rattle.clause_form.proofs.sink.Sink.word.Given as goal

abbrev pub invariant-loop-bit : goal.invariant-loop-bit
invariant-loop-bit l = record {
  base : l.self.base ≡ l.fn.self.base;
  rest : after (sunk_of l.fn.self) (word_clauses l.fn.self.base l.checked 0 l.word)
      ≡ after (sunk_of l.self) (word_clauses l.self.base l.checked l.bit (drop l.bit l.word));
}
