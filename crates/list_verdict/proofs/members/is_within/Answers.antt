use Rattle.std.proofs.Common.{arith, refl, rules, subst}
use Rattle.std.specs.Prelude.{All, Contains}
use Rattle.std.proofs.lemmas.List.{take_all}
use Rattle.std.proofs.lemmas.List.Elements.{All-more}
use Rattle.list_verdict.proofs.members.is_within.Goals as goal

pub loop-member-preserved : goal.loop-member-preserved
loop-member-preserved c =
    All-more (Contains c.args.outer.now) c.args.inner.now c.loop-member.member-index 0 (omega arith) c.loop-member.invariant
    (c.has.ensures.0 (search rules))

pub returns : goal.returns
returns c = (
  (λ _. subst (All (Contains c.args.outer.now)) (take_all c.loop-member.member-index c.args.inner.now (omega arith)) c.loop-member.invariant),
  (λ all. refl),
)
