use Rattle.std.proofs.Common.{arith, sym}
use Rattle.v_lexer.proofs.LiteralRows.{fault_found}
use Rattle.v_lexer.proofs.literals.digits_fault.Goals as goal

pub returns-in-Some : goal.returns-in-Some
returns-in-Some c = sym (fault_found c.args.base c.args.digits.now c.loop-byte.byte-index c.in-Some.fault (omega arith) (sym c.in-Some.ensures) c.loop-byte.invariant)
