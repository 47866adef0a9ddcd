use Rattle.std.proofs.Common.{◌≡◌, take}
use Rattle.clause_base.specs.Acceptance.{blocks_in}
use Rattle.proof_check.proofs.piece.blocks_up_to_end.Given as goal

abbrev pub invariant-loop-place : goal.invariant-loop-place
invariant-loop-place l = l.seen ≡ blocks_in (take l.place l.log)
