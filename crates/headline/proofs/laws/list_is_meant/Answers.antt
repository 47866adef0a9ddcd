use Rattle.std.proofs.Common.{inl}
use Rattle.headline.proofs.Listed.{all, promised}
use Rattle.headline.proofs.laws.list_is_meant.Goals as goal

pub returns : goal.returns
returns g c =
    all g.of ((promised g.of c.requires.0).answered c.requires.0.told (inl c.requires.1)) c.requires.1
