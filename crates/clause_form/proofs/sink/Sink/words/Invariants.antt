use Rattle.std.proofs.Common.{◌≡◌, ◌+◌, length, drop}
use Rattle.std.specs.Prelude.{slice_range}
use Rattle.clause_form.specs.Clauses.{words_clauses}
use Rattle.clause_form.specs.Fields.{after, sunk_of}
use Rattle.clause_form.proofs.sink.Sink.words.Given as goal

abbrev pub invariant-loop-output : goal.invariant-loop-output
invariant-loop-output l = record {
  base : l.self.base ≡ l.fn.self.base;
  rest : after (sunk_of l.fn.self) (words_clauses l.fn.self.base l.expected (slice_range l.words l.first (l.first + length l.expected)))
      ≡ after (sunk_of l.self)
      (words_clauses l.self.base (drop l.output l.expected) (slice_range l.words (l.first + l.output) (l.first + length l.expected)));
}
