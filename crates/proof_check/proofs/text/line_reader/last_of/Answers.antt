use Rattle.proof_check.proofs.Seen.{last_variable-last}
use Rattle.proof_check.proofs.text.line_reader.last_of.Goals as goal

pub returns-in-Some : goal.returns-in-Some
returns-in-Some c = last_variable-last c.args.literals.now c.in-Some.literal.now c.in-Some.ensures.value
