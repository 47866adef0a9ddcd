use Rattle.v_lexer.proofs.RealRows.{fraction_none}
use Rattle.v_lexer.proofs.real_delays.fraction_length.Goals as goal

pub returns-else-is_decimal : goal.returns-else-is_decimal
returns-else-is_decimal c = fraction_none c.args.rest.now c.in-Some.tail.now c.in-Some.byte c.in-Some.ensures (cc)
