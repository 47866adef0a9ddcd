use Rattle.verilog_front_end.proofs.OneMeaning.{same-design}
use Rattle.verilog_front_end.proofs.laws.one_design.Goals as goal

pub returns : goal.returns
returns c = λ text top clock d e one other. same-design text top clock d e one.has_design other.has_design
