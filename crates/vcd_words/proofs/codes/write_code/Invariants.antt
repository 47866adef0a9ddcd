use Rattle.std.proofs.Common.{◌≡◌, ◌-◌, ◌++◌}
use Rattle.vcd_words.specs.Codes.{code_from}
use Rattle.vcd_words.proofs.codes.write_code.Given as goal

abbrev pub invariant-loop-digit : goal.invariant-loop-digit
invariant-loop-digit l = l.text ++ code_from (10 - l._digit) l.left ≡ l.fn.text ++ code_from 10 l.number
