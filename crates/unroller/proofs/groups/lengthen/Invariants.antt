use Rattle.std.proofs.Common.{◌≡◌, ℕ, ◌+◌, get_or, length}
use Rattle.unroller.proofs.groups.lengthen.Given as goal

abbrev pub invariant-loop-i : goal.invariant-loop-i
invariant-loop-i g l = record {
  long : length l.list ≡ length l.fn.list + l.i;
  same : (p : ℕ) → get_or l.list p l.entry ≡ get_or l.fn.list p l.entry;
}
