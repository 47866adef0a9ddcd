use Rattle.std.proofs.Common.{◌≡◌, ℕ, ◌<◌, false, eqb, get_or}
use Rattle.proof_check.proofs.text.cut.cut_at.Given as goal

abbrev pub invariant-loop-place : goal.invariant-loop-place
invariant-loop-place l = (k : ℕ) → k < l.place → eqb (get_or l.text k 0) l.byte ≡ false
