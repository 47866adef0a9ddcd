use Rattle.v_lexer.proofs.RealRows.{fraction_end_stops}
use Rattle.v_lexer.proofs.real_delays.fraction_end_length.Goals as goal

pub returns-else-is_exponent_mark : goal.returns-else-is_exponent_mark
returns-else-is_exponent_mark c = fraction_end_stops c.args.rest.now c.in-Some.tail.now c.in-Some.byte c.requires c.in-Some.ensures (cc)
