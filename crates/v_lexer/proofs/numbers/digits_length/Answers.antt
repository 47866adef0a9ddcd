use Rattle.v_lexer.proofs.NumberRows.{digits_end}
use Rattle.v_lexer.proofs.numbers.digits_length.Goals as goal

pub returns-else-is_digit : goal.returns-else-is_digit
returns-else-is_digit c = digits_end c.in-Some.byte c.args.rest.now c.in-Some.tail.now c.in-Some.ensures (cc) (cc)
