use Rattle.v_lexer.proofs.RealRows.{real_none}
use Rattle.v_lexer.proofs.real_delays.real_end_length.Goals as goal

pub returns-else-is_exponent_mark : goal.returns-else-is_exponent_mark
returns-else-is_exponent_mark c = real_none c.args.rest.now c.in-Some.tail.now c.in-Some.byte c.requires c.in-Some.ensures c.if-byte-eq46.false (cc)
