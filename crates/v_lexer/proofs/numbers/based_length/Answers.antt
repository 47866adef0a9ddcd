use Rattle.v_lexer.proofs.NumberRows.{based_ends}
use Rattle.v_lexer.proofs.numbers.based_length.Goals as goal

pub returns-else-is_base : goal.returns-else-is_base
returns-else-is_base c = based_ends c.in-Some.byte c.args.rest.now c.in-Some.tail.now c.in-Some.ensures (cc) (cc)
