use Rattle.aiger_design.proofs.FileLaws.{file-driven-once}
use Rattle.aiger_design.proofs.laws.file_is_driven_once.Goals as goal

pub returns : goal.returns
returns c = file-driven-once
