use Rattle.std.proofs.Common.{ℕ, ◌<◌, ◌≤◌, [], get_or, length}
use Rattle.clause_form.proofs.most.longest.Given as goal

abbrev pub invariant-loop-i : goal.invariant-loop-i
invariant-loop-i l = (place : ℕ) → place < l.i → length (get_or l.rows place []) ≤ l.longest
