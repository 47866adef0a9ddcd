use Rattle.std.proofs.Common.{List, Option, subst}
use Rattle.std.specs.Prelude.{IfSome}
use Rattle.clause_base.specs.declared.log.Step.{Step}
use Rattle.proof_check.specs.Parts.{IsTextOf}
use Rattle.proof_check.proofs.Parts.{lines-of_text}
use Rattle.proof_check.proofs.text.parts.read_steps_by.Goals as goal

pub returns-in-Some-clause-ok : goal.returns-in-Some-clause-ok
returns-in-Some-clause-ok g c =
    let text = c.args.text.now in
    lines-of_text text c.in-Some.log (subst (λ (read : Option (List Step)). IfSome read (IsTextOf text)) c.in-Some.is c.in_ok-log.ensures)
