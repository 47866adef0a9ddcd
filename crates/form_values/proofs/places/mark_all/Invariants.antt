use Rattle.std.proofs.Common.{◌≡◌, ℕ, ◌==◌, ◌||◌, ◌≤◌, ◌^◌, false, get_or, length, take}
use Rattle.std.specs.List.{list_any}
use Rattle.form_values.proofs.places.mark_all.Given as goal

abbrev pub invariant-loop-i : goal.invariant-loop-i
invariant-loop-i l = record {
  few : length l.table ≤ 2 ^ 32;
  marks : (p : ℕ) → get_or l.table p false ≡ (list_any (λ q. q == p) (take l.i l.places) || get_or l.fn.table p false);
}
