use Rattle.std.proofs.Common.{refl}
use Rattle.freed_conditions.proofs.KeptLaws.{same_subject}
use Rattle.freed_conditions.proofs.laws.same_subject.Goals as goal

pub returns : goal.returns
returns g c =
    same_subject g.of.signals g.of.hidden g.of.choice g.of.next g.of.condition g.of.updates g.of.updates c.requires.0 c.requires.1.0 c.requires.1.1
    (record { same = λ s b below. refl })
