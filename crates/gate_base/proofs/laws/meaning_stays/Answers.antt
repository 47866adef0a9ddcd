use Rattle.gate_base.proofs.Meaning.{keep, keep_all}
use Rattle.gate_base.proofs.laws.meaning_stays.Goals as goal

pub returns : goal.returns
returns g c = record { one = keep c.requires.0 c.requires.1.0; all = keep_all c.requires.0 c.requires.1.1 }
