use Rattle.made_input.proofs.Pieces.{whole_text}
use Rattle.made_input.proofs.trace.trace_text.Goals as goal

pub returns : goal.returns
returns c =
    whole_text c.args.number c.cycles.result c.new-text.result c.write_header.new.text c.write_cycles.new.text c.new-text.ensures
    c.in_ok-write_header.ensures c.in_ok-write_cycles.ensures c.cycles.ensures.is
