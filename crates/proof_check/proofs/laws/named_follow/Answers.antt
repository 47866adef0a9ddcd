use Rattle.proof_check.proofs.Mentioned.{named-follow}
use Rattle.proof_check.proofs.laws.named_follow.Goals as goal

pub returns : goal.returns
returns c = named-follow
