use Rattle.list_verdict.proofs.Fronted.{front-list}
use Rattle.list_verdict.proofs.Whole.{log-follows}
use Rattle.list_verdict.proofs.laws.shown_is_front_list.Goals as goal

pub returns : goal.returns
returns g c =
    let shown = c.requires.1.1.1.1 in
    front-list g.of.claim g.of.vars c.requires.0 c.requires.1.0 (log-follows g.of.claim c.requires.1.1.0 c.requires.1.1.1.0 shown.accepted)
    shown.in_order shown.none_holds shown.right shown.shows
