use Rattle.aiger_design.proofs.FileLaws.{file-well-formed}
use Rattle.aiger_design.proofs.laws.file_is_well_formed.Goals as goal

pub returns : goal.returns
returns c = file-well-formed
