use Rattle.aiger_front_end.proofs.OneMeaning.{no-refusal}
use Rattle.aiger_front_end.proofs.laws.no_refusal.Goals as goal

pub returns : goal.returns
returns c = no-refusal c.one_design.ensures c.no_refusal.ensures
