use Rattle.v_lexer.proofs.NumberRows.{signed_base_ends}
use Rattle.v_lexer.proofs.numbers.signed_base_length.Goals as goal

pub returns-else-is_base : goal.returns-else-is_base
returns-else-is_base c = signed_base_ends c.in-Some.byte c.args.rest.now c.in-Some.tail.now c.in-Some.ensures (cc)
