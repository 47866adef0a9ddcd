use Rattle.std.proofs.Common.{◌≡◌, drop}
use Rattle.v_syntax.specs.Literals.{value_from, value_of}
use Rattle.v_lexer.proofs.literals.value_of.Given as goal

abbrev pub invariant-loop-byte : goal.invariant-loop-byte
invariant-loop-byte l = value_from l.base l.value (drop l.byte-index l.digits) ≡ value_of l.base l.digits
