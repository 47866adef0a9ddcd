use Rattle.std.proofs.Common.{subst}
use Rattle.list_verdict.specs.Claims.{Claim}
use Rattle.list_verdict.specs.Verdicts.{IsVerdict}
use Rattle.check_cmd.specs.Means.{claim_of}
use Rattle.check_cmd.specs.Parts.{given_of}
use Rattle.session_reading.proofs.Causes.{ok-of}
use Rattle.check_cmd.proofs.Posing.{same-claim}
use Rattle.check_cmd.proofs.run.verdict_on.Goals as goal

pub returns-clause-verdict : goal.returns-clause-verdict
returns-clause-verdict g c =
    ok-of _ (IsVerdict (claim_of (given_of c.args.evidence.now))) c.judge.result
    (λ v is. subst (λ (k : Claim). IsVerdict k v) (same-claim _ _ _ _ _ _ c.question-question.ensures c.as_slice-sets.ensures) is)
    c.judge.ensures.verdict
