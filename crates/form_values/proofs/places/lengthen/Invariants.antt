use Rattle.std.proofs.Common.{◌≡◌, ℕ, ◌+◌, get_or, length}
use Rattle.form_values.proofs.places.lengthen.Given as goal

abbrev pub invariant-loop-i : goal.invariant-loop-i
invariant-loop-i g l = record {
  long : length l.table ≡ length l.fn.table + l.i;
  same : (p : ℕ) → get_or l.table p l.entry ≡ get_or l.fn.table p l.entry;
}
