use Rattle.std.proofs.Common.{◌≡◌, length}
use Rattle.proof_check.specs.LineWords.{take_words}
use Rattle.proof_check.specs.Pieces.{pieces_after}
use Rattle.proof_check.proofs.text.steps.take_all.Given as goal

abbrev pub invariant-loop-rest : goal.invariant-loop-rest
invariant-loop-rest l = take_words l.kind l.reader (pieces_after 32 l.rest) ≡ take_words l.kind l.initial.reader (pieces_after 32 l.initial.rest)

abbrev pub decreases-loop-rest : goal.decreases-loop-rest
decreases-loop-rest l = length (pieces_after 32 l.rest)
