use Rattle.verilog_front_end.proofs.Designs.{design-of_text}
use Rattle.verilog_front_end.proofs.text_laws.design_of_text_is_well_formed.Goals as goal

pub returns : goal.returns
returns g c =
    let of = g.of in
    let both = design-of_text of.text.tokens of.text.units of.top of.list of.clock of.binding of.design
    c.requires.0 c.requires.1.0 c.requires.1.1.0 c.requires.1.1.1.0 c.requires.1.1.1.1 in
    record { well_formed = both.well_formed; runs = both.runs }
