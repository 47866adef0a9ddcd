use Rattle.std.proofs.Common.{◌≡◌, ℕ, ◌+◌, [], get_or, length}
use Rattle.clause_form.proofs.selectors.lengthen.Given as goal

abbrev pub invariant-loop-i : goal.invariant-loop-i
invariant-loop-i l = record {
  long : length l.rows.items ≡ length l.fn.rows.items + l.i;
  same : (p : ℕ) → get_or l.rows.items p [] ≡ get_or l.fn.rows.items p [];
}
