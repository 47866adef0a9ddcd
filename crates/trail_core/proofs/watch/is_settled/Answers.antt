use Rattle.std.proofs.Common.{◌≡◌, true, false, get_or, subst, rules}
use Rattle.clause_base.specs.declared.literal.Lit.{Lit}
use Rattle.clause_base.specs.Literal.{has}
use Rattle.trail_core.proofs.Looks.{has_at}
use Rattle.trail_core.proofs.watch.is_settled.Goals as goal

abbrev none : Lit
none = record { var = 0; negated = false }

pub returns-then-eq : goal.returns-then-eq
returns-then-eq c = λ _. record {
  literal = get_or c.clause-l-items.result.now c.loop-l.l-index none;
  member = subst (λ xs. has xs (get_or c.clause-l-items.result.now c.loop-l.l-index none) ≡ true) c.clause-l-items.ensures.value (has_at c.clause-l-items.result.now c.loop-l.l-index none c.loop-l-test.true);
  is_true = search rules;
  level = search rules;
}
