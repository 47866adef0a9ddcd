use Rattle.std.proofs.Common.{◌≡◌, ℕ, ◌==◌, [], get_or, take}
use Rattle.std.specs.List.{list_any}
use Rattle.clause_form.proofs.SelectorSteps.{added}
use Rattle.clause_form.proofs.selectors.add_all.Given as goal

abbrev pub invariant-loop-i : goal.invariant-loop-i
invariant-loop-i l =
    (p : ℕ) → get_or l.rows.items p [] ≡ added (list_any (λ q. q == p) (take l.i l.places)) l.number (get_or l.fn.rows.items p [])
