use Rattle.changes.proofs.ChangeLaws.{changes-unique}
use Rattle.changes.proofs.laws.one_change_list.Goals as goal

pub returns : goal.returns
returns g c =
    let same = changes-unique g.of.one.design g.of.one.order g.of.one.trace g.of.one.places g.of.one.values g.of.one.changes g.of.changes
    g.of.one.run g.of.run c.requires.0 c.requires.1.0 c.requires.1.1.0 c.requires.1.1.1 in
    record { changes = same.0; run = same.1 }
