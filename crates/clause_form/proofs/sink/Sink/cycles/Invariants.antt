use Rattle.std.proofs.Common.{◌≡◌, [], ◌∷◌, get_or, drop}
use Rattle.clause_form.specs.Clauses.{cycles_clauses}
use Rattle.clause_form.specs.Fields.{after, sunk_of}
use Rattle.clause_form.proofs.sink.Sink.cycles.Given as goal

abbrev pub invariant-loop-t : goal.invariant-loop-t
invariant-loop-t l = record {
  base : l.self.base ≡ l.fn.self.base;
  rest : after (sunk_of l.fn.self) (cycles_clauses l.u (λ place. get_or l.selectors place []) 0 0 l.u.ends)
      ≡ after (sunk_of l.self)
      (cycles_clauses l.u (λ place. get_or l.selectors place []) l.t (get_or (0 ∷ l.u.ends) l.t 0) (drop l.t l.u.ends));
}
