use Rattle.std.proofs.Common.{◌≡◌, ◌++◌, map, take}
use Rattle.proof_check.specs.Text.{literal_text, spaced}
use Rattle.log_portions.proofs.lines.push_clause.Given as goal

abbrev pub invariant-loop-literal : goal.invariant-loop-literal
invariant-loop-literal l = l.text.items ≡ l.initial.text.items ++ spaced (map literal_text (take l.literal-index l.literals))
