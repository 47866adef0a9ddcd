use Rattle.aiger_rules.proofs.NamingLaws.{lines}
use Rattle.aiger_rules.proofs.laws.one_name.Goals as goal

pub returns : goal.returns
returns c = lines
