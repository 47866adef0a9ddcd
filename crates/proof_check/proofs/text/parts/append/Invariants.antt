use Rattle.std.proofs.Common.{◌≡◌, ◌++◌, take}
use Rattle.proof_check.proofs.text.parts.append.Given as goal

abbrev pub invariant-loop-place : goal.invariant-loop-place
invariant-loop-place l = l.log ≡ l.initial.log ++ take l.place l.more
