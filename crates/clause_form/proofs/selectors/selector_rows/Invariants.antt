use Rattle.std.proofs.Common.{◌≡◌, ℕ, [], get_or, take}
use Rattle.clause_form.specs.Clauses.{selectors_of}
use Rattle.clause_form.proofs.selectors.selector_rows.Given as goal

abbrev pub invariant-loop-i : goal.invariant-loop-i
invariant-loop-i l = record {
  number : l.number ≡ l.i;
  rows : (p : ℕ) → get_or l.rows.items p [] ≡ selectors_of (take l.i l.groups) p;
}
