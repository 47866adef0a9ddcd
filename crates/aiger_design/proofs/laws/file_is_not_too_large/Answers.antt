use Rattle.aiger_design.proofs.FileLaws.{file-not-too-large}
use Rattle.aiger_design.proofs.laws.file_is_not_too_large.Goals as goal

pub returns : goal.returns
returns c = file-not-too-large
