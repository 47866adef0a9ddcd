use Rattle.vcd_words.proofs.CodeSteps.{code_done}
use Rattle.vcd_words.proofs.codes.write_code.Goals as goal

pub returns : goal.returns
returns c = code_done _ _ _ _ c.loop-digit-test.false c.loop-digit.invariant
