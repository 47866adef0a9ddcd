use Rattle.std.proofs.Common.{rules}
use Rattle.list_verdict.specs.Claims.{claim_of}
use Rattle.list_verdict.proofs.Judged.{front-of, open-of, whole-of}
use Rattle.list_verdict.proofs.judgement.judge_end.Goals as goal

pub returns-then-closes_list : goal.returns-then-closes_list
returns-then-closes_list g c =
    whole-of (claim_of c.args.listed.now) c.args.listed.now.plan.now.vars c.requires.can.problem c.requires.can.form c.requires.faultless
    (c.closes_list.ensures.0 (search rules))

pub returns-then-shown : goal.returns-then-shown
returns-then-shown g c =
    front-of (claim_of c.args.listed.now) c.args.listed.now.plan.now.vars c.requires.can.problem c.requires.can.form c.requires.faultless
    (search rules) (c.in_ok-shown.ensures.0 (search rules))

pub returns : goal.returns
returns g c =
    open-of (claim_of c.args.listed.now) c.args.listed.now.plan.now.vars c.requires.can.problem c.requires.can.form c.requires.faultless
    (search rules) (search rules)
