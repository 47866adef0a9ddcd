use Rattle.aiger_front_end.proofs.laws.one_design.Goals as goal

pub returns : goal.returns
returns c = λ text top clock d e one other. c.one_design.ensures text top clock d e one.is_file other.is_file
