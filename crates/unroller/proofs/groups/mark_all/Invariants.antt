use Rattle.std.proofs.Common.{◌≡◌, ℕ, ◌==◌, ◌||◌, false, get_or, take}
use Rattle.std.specs.List.{list_any}
use Rattle.unroller.proofs.groups.mark_all.Given as goal

abbrev pub invariant-loop-i : goal.invariant-loop-i
invariant-loop-i l =
    (p : ℕ) → get_or l.table p false ≡ (list_any (λ q. q == p) (take l.i l.places) || get_or l.fn.table p false)
