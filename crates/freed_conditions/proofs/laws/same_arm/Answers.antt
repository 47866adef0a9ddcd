use Rattle.freed_conditions.proofs.KeptLaws.{same_arm}
use Rattle.freed_conditions.proofs.laws.same_arm.Goals as goal

pub returns : goal.returns
returns g c =
    same_arm g.of.signals g.of.choice g.of.next g.of.condition g.of.updates c.requires.0 c.requires.1
