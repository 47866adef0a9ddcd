use Rattle.std.proofs.Common.{◌≡◌, ◌++◌, drop}
use Rattle.v_lexer.specs.Directives.{joined}
use Rattle.v_lexer.proofs.definitions.joined.Given as goal

abbrev pub invariant-loop-i : goal.invariant-loop-i
invariant-loop-i l = joined l.tail ≡ l.line.items ++ joined (drop l.i l.tail)
