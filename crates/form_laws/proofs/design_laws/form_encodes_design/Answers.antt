use Rattle.form_laws.proofs.DesignWorks.{encodes-design}
use Rattle.form_laws.proofs.design_laws.form_encodes_design.Goals as goal

pub returns : goal.returns
returns g c = encodes-design g.of c.requires
