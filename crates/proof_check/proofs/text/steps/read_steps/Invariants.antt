use Rattle.std.proofs.Common.{◌≡◌, ◌+◌, length}
use Rattle.proof_check.specs.Text.{pieces}
use Rattle.proof_check.specs.Pieces.{pieces_after}
use Rattle.proof_check.proofs.StepLines.{Split}
use Rattle.proof_check.proofs.text.steps.read_steps.Given as goal

abbrev pub invariant-loop-rest : goal.invariant-loop-rest
invariant-loop-rest l = record {
  lines : Split (pieces l.text) l.log l.front (pieces_after 10 l.rest);
  count : l.line ≡ length l.log + 3;
}

abbrev pub decreases-loop-rest : goal.decreases-loop-rest
decreases-loop-rest l = length (pieces_after 10 l.rest)
