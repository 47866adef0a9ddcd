use Rattle.list_verdict.proofs.Whole.{log-follows, whole-list}
use Rattle.list_verdict.proofs.laws.whole_is_list.Goals as goal

pub returns : goal.returns
returns g c =
    whole-list g.of.claim g.of.vars c.requires.0 c.requires.1.0
    (log-follows g.of.claim c.requires.1.1.0 c.requires.1.1.1.0 c.requires.1.1.1.1.accepted) c.requires.1.1.1.1
