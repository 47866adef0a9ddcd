use Rattle.aiger_design.proofs.FileLaws.{one-design}
use Rattle.aiger_design.proofs.laws.one_design.Goals as goal

pub returns : goal.returns
returns c = one-design c.one_content.ensures
