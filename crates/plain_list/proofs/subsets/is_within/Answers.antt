use Rattle.std.proofs.Common.{sym, subst, refl, arith, take, get_or}
use Rattle.std.specs.Prelude.{Contains}
use Rattle.std.proofs.lemmas.List.{take_more}
use Rattle.std.proofs.lemmas.List.Elements.{All-push}
use Rattle.design_core.specs.Works.{IsWithin}
use Rattle.plain_list.proofs.Trying.{take-all}
use Rattle.plain_list.proofs.subsets.is_within.Goals as goal

pub loop-i-preserved : goal.loop-i-preserved
loop-i-preserved c =
    let inner = c.args.inner.now in
    let outer = c.args.outer.now in
    let i = c.loop-i.i in
    subst (λ xs. IsWithin xs outer) (sym (take_more inner i 0 c.loop-i-test.true))
    (All-push (Contains outer) (take i inner) (get_or inner i 0) c.loop-i.invariant (c.is_member.ensures.0 c.if-not-is_member.false))

pub returns : goal.returns
returns c = (
  λ _. subst (λ xs. IsWithin xs c.args.outer.now) (take-all c.args.inner.now c.loop-i.i (omega (arith, c.loop-i-test.false, c.loop-i.auto.i-end))) c.loop-i.invariant,
  λ _. refl,
)
