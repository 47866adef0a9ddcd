use Rattle.aiger_design.proofs.FileLaws.{no-refusal}
use Rattle.aiger_design.proofs.laws.no_refusal.Goals as goal

pub returns : goal.returns
returns c = no-refusal c.one_content.ensures c.no_refusal.ensures c.no_refusal-2.ensures c.no_misnaming.ensures
