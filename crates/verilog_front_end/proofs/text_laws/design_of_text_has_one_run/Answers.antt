use Rattle.verilog_front_end.proofs.Designs.{design-of_text}
use Rattle.verilog_front_end.proofs.Runs.{one-run}
use Rattle.verilog_front_end.proofs.text_laws.design_of_text_has_one_run.Goals as goal

pub returns : goal.returns
returns g c =
    let of = g.with.of in
    let both = design-of_text of.text.tokens of.text.units of.top of.list of.clock of.binding of.design
    c.requires.0 c.requires.1.0 c.requires.1.1.0 c.requires.1.1.1.0 c.requires.1.1.1.1.0 in
    one-run of.design g.with.order both.well_formed c.requires.1.1.1.1.1.0 c.requires.1.1.1.1.1.1
