use Rattle.std.proofs.Common.{rules, subst}
use Rattle.std.specs.Prelude.{IsTrue}
use Rattle.debug_core.specs.Problems.{problem_of}
use Rattle.list_verdict.specs.Claims.{claim_of}
use Rattle.list_verdict.specs.Judging.{AreMembers}
use Rattle.list_verdict.proofs.Ordered.{found-says}
use Rattle.list_verdict.proofs.order.found_at.Goals as goal

pub returns : goal.returns
returns c =
    let are : IsTrue c.are_members.result = search rules in
    let after : IsTrue c.comes_after.result = search rules in
    found-says (claim_of c.args.listed.now) c.args.place c.set_at-set.result.now c.valued.result c.set_at-set.ensures
    (subst (AreMembers (problem_of c.args.listed.now.question.now)) c.as_slice.ensures (c.are_members.ensures.0 are))
    ((c.comes_after.ensures c.set_at-set.result.now c.set_at-set.ensures).0 after) c.valued.ensures
