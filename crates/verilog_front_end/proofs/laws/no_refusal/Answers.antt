use Rattle.verilog_front_end.proofs.OneMeaning.{no-refusal}
use Rattle.verilog_front_end.proofs.laws.no_refusal.Goals as goal

pub returns : goal.returns
returns c = no-refusal
