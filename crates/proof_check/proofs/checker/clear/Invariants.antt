use Rattle.std.proofs.Common.{◌≡◌, ℕ, ◌<◌, get_or}
use Rattle.proof_check.specs.declared.marks.Mark.{Mark}
use Rattle.proof_check.proofs.checker.clear.Given as goal

abbrev pub invariant-loop-mark : goal.invariant-loop-mark
invariant-loop-mark l = (k : ℕ) (d : Mark) → k < l.mark-index → (get_or l.marks k d).stamp ≡ 0
