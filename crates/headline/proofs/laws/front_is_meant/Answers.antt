use Rattle.std.proofs.Common.{inr}
use Rattle.headline.proofs.Listed.{is-front, promised}
use Rattle.headline.proofs.laws.front_is_meant.Goals as goal

pub returns : goal.returns
returns g c =
    is-front g.of ((promised g.of c.requires.0).answered c.requires.0.told (inr c.requires.1)) c.requires.1
