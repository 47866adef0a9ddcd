use Rattle.std.proofs.Common.{◌≡◌, ◌+◌, [], get_or, drop}
use Rattle.clause_form.specs.Clauses.{nodes_clauses}
use Rattle.clause_form.specs.Fields.{after, sunk_of}
use Rattle.clause_form.proofs.sink.Sink.nodes.Given as goal

abbrev pub invariant-loop-i : goal.invariant-loop-i
invariant-loop-i l = record {
  base : l.self.base ≡ l.fn.self.base;
  rest : after (sunk_of l.fn.self) (nodes_clauses l.fn.self.base (λ place. get_or l.selectors place []) l.first l.nodes)
      ≡ after (sunk_of l.self) (nodes_clauses l.self.base (λ place. get_or l.selectors place []) (l.first + l.i) (drop l.i l.nodes));
}
