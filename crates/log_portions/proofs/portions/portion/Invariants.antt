use Rattle.std.proofs.Common.{◌≡◌, ◌++◌, drop}
use Rattle.log_portions.specs.Portions.{steps_text}
use Rattle.log_portions.proofs.portions.portion.Given as goal

-- the text so far, and the lines of the steps that are left, are those of all
abbrev pub invariant-loop-place : goal.invariant-loop-place
invariant-loop-place l = l.text.items ++ steps_text (drop l.place l.log) ≡ steps_text (drop l.from l.log)
