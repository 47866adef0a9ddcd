use Rattle.v_lexer.proofs.RealRows.{hash_other}
use Rattle.v_lexer.proofs.real_delays.hash_piece.Goals as goal

pub returns-else-is_decimal : goal.returns-else-is_decimal
returns-else-is_decimal c = hash_other c.args.rest.now c.in-Some.tail.now c.in-Some.byte c.in-Some.ensures (cc)
