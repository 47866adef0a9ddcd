use Rattle.std.proofs.Common.{ap, ◌∙◌, subst, refl, get_or, false}
use Rattle.design_core.specs.Words.{valuation_of, AreWordsOf}
use Rattle.design_core.specs.Cycle.{before, sampled}
use Rattle.plain_list.specs.Trial.{choice_of}
use Rattle.plain_list.proofs.Settling.{sampled-before, settled-next}
use Rattle.plain_list.proofs.settle.settle.Goals as goal

pub loop-i-init : goal.loop-i-init
loop-i-init c = (
  subst (λ xs. AreWordsOf xs c.load_samples.new.words) c.deref.ensures.value c.load_samples.ensures.words,
  c.load_samples.ensures.value ∙ ap (λ xs. sampled xs c.args.samples.now) c.deref-2.ensures.value
      ∙ sampled-before c.args.d.now c.args.order.now c.args.samples.now c.requires.network,
)

pub loop-i-preserved : goal.loop-i-preserved
loop-i-preserved c = (
  c.carry_out.ensures.words,
  settled-next c.args.d.now (choice_of c.args.places.now c.args.numbers.now) (before c.args.d.now c.args.samples.now (λ _ _. false)) c.args.order.now c.loop-i.i
      (get_or c.args.order.now c.loop-i.i 0) (valuation_of c.loop-i.words) (valuation_of c.carry_out.new.words) c.loop-i-test.true refl c.loop-i.invariant.1 c.carry_out.ensures.value,
)
