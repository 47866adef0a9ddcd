use Rattle.std.proofs.Common.{◌≡◌, take}
use Rattle.proof_check.specs.Text.{text_of}
use Rattle.proof_check.proofs.text.log_text.Given as goal

abbrev pub invariant-loop-place : goal.invariant-loop-place
invariant-loop-place l = l.text ≡ text_of (record l.value { log = take l.place l.value.log })
