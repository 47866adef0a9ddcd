use Rattle.proof_check.proofs.Mentioned.{same-answer}
use Rattle.proof_check.proofs.laws.same_answer.Goals as goal

pub returns : goal.returns
returns c = same-answer
