use Rattle.set_waves.proofs.NameLaws.{same-names}
use Rattle.set_waves.proofs.laws.same_name.Goals as goal

pub returns : goal.returns
returns g c =
    let same = same-names g.of.prefix g.of.set g.of.trace g.of.other_set g.of.other_trace c.requires.0 c.requires.1.0
    c.requires.1.1.0 c.requires.1.1.1.0 c.requires.1.1.1.1 in
    record { set = same.0; trace = same.1 }
