use Rattle.std.proofs.Common.{◌≡◌, ◌++◌, map, take}
use Rattle.proof_check.specs.Text.{literal_text, spaced}
use Rattle.proof_check.proofs.text.write.write_clause.Given as goal

abbrev pub invariant-loop-literal : goal.invariant-loop-literal
invariant-loop-literal l = l.text ≡ l.initial.text ++ spaced (map literal_text (take l.literal-index l.literals))
