use Rattle.std.proofs.Common.{arith}
use Rattle.v_lexer.proofs.LiteralRows.{value_past}
use Rattle.v_lexer.proofs.literals.value_of.Goals as goal

pub returns-in_err-value : goal.returns-in_err-value
returns-in_err-value c = rw c.from_residual.ensures (value_past c.args.base c.loop-byte.value c.args.digits.now c.loop-byte.byte-index c.requires (omega arith) c.in_err-value.ensures c.loop-byte.invariant)
