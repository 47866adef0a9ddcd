use Rattle.plain_list.proofs.Sampling.{cleared-next, all_zero, ZeroBefore}
use Rattle.std.proofs.Common.{subst, sym, ◌∙◌, arith, ◌≡◌, ◌<◌, length}
use Rattle.plain_list.proofs.samples.clear.Goals as goal

pub loop-i-preserved : goal.loop-i-preserved
loop-i-preserved c =
    cleared-next c.args.signals.now c.loop-i.words c.loop-i.i c.index-words-i.result c.zero.result c.loop-i.invariant
    (subst (λ n. c.loop-i.i < n) (sym c.loop-i.auto.words) c.loop-i-test.true) c.index-words-i.is (c.zero.ensures.width ∙ c.width.ensures) c.zero.ensures.value

pub returns-clause-value : goal.returns-clause-value
returns-clause-value c =
    let all : c.loop-i.i ≡ length c.loop-i.words = omega (arith, c.loop-i-test.false, c.loop-i.auto.i-end, c.loop-i.auto.words) in
    all_zero c.loop-i.words (subst (λ n. ZeroBefore n c.loop-i.words) all c.loop-i.invariant.1)
