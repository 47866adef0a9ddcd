use Rattle.form_laws.proofs.DesignWorks.{meets-alike-design}
use Rattle.form_laws.proofs.design_laws.numbers_meet_as_bits.Goals as goal

pub returns : goal.returns
returns g c = meets-alike-design g.of c.requires
