use Rattle.list_verdict.proofs.Judged.{only-front}
use Rattle.list_verdict.proofs.laws.shown_is_judged.Goals as goal

pub returns : goal.returns
returns g c = only-front g.of.claim g.of.verdict c.requires.0 c.requires.1.0 c.requires.1.1
