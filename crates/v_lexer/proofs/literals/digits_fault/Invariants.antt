use Rattle.std.proofs.Common.{◌≡◌, drop}
use Rattle.v_syntax.specs.Literals.{digits_fault}
use Rattle.v_lexer.proofs.literals.digits_fault.Given as goal

abbrev pub invariant-loop-byte : goal.invariant-loop-byte
invariant-loop-byte l = digits_fault l.base l.digits ≡ digits_fault l.base (drop l.byte-index l.digits)
