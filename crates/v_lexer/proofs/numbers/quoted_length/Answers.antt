use Rattle.v_lexer.proofs.NumberRows.{number_ends}
use Rattle.v_lexer.proofs.numbers.quoted_length.Goals as goal

pub returns-else-byte-eq39 : goal.returns-else-byte-eq39
returns-else-byte-eq39 c = number_ends c.in-Some.byte c.args.rest.now c.in-Some.tail.now c.requires c.in-Some.ensures (cc) c.if-byte-eq39.false
