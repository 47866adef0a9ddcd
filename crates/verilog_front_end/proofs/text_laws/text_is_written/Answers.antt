use Rattle.verilog_front_end.proofs.Modules.{source-written}
use Rattle.verilog_front_end.proofs.text_laws.text_is_written.Goals as goal

pub returns : goal.returns
returns g c = source-written g.of.tokens g.of.units c.requires
