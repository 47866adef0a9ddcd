use Rattle.front_cert.proofs.OneAnswer.{one-missing}
use Rattle.front_cert.proofs.laws.one_answer.Goals as goal

pub returns : goal.returns
returns c = one-missing
