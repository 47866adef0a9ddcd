use Rattle.std.proofs.Common.{inl}
use Rattle.headline.proofs.Judged.{promised, yes}
use Rattle.headline.proofs.laws.yes_is_meant.Goals as goal

pub returns : goal.returns
returns g c =
    yes g.of ((promised g.of c.requires.0).answered c.requires.0.told (inl c.requires.1)) c.requires.1
