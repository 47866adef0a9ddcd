use Rattle.plain_list.proofs.Sampling.{nothing_loaded, sample-place, sampled-next, samples-length}
use Rattle.std.proofs.Common.{subst, sym, ap, ◌∙◌, arith, ◌≡◌, ◌-◌, ◌+◌, drop}
use Rattle.design_core.specs.Cycle.{sampled}
use Rattle.design_core.specs.Words.{valuation_of}
use Rattle.plain_list.proofs.samples.load_samples.Goals as goal

pub loop-left-init : goal.loop-left-init
loop-left-init c = (
  omega arith,
  c.clear.ensures.words,
  c.clear.ensures.value ∙ nothing_loaded c.args.signals.now c.args.inputs.now c.args.samples.now c.requires.samples
      ∙ ap (λ n. sampled (drop n c.args.inputs.now) (drop n c.args.samples.now)) (samples-length c.args.signals.now c.args.inputs.now c.args.samples.now c.requires.samples),
)

pub bounds-inputs-left : goal.bounds-inputs-left
bounds-inputs-left c = omega (arith, c.loop-left-test.true, c.loop-left.invariant.0, samples-length c.args.signals.now c.args.inputs.now c.args.samples.now c.requires.samples)

pub bounds-words-inputs : goal.bounds-words-inputs
bounds-words-inputs c =
    (sample-place c.args.signals.now c.args.inputs.now c.args.samples.now c.loop-left.words (c.loop-left.left - 1) c.requires.samples c.loop-left.invariant.1
    (omega (arith, c.loop-left-test.true, c.loop-left.invariant.0, samples-length c.args.signals.now c.args.inputs.now c.args.samples.now c.requires.samples))).1

pub loop-left-preserved : goal.loop-left-preserved
loop-left-preserved c =
    let next : c.loop-left.left - 1 + 1 ≡ c.loop-left.left = omega (arith, c.loop-left-test.true) in
    let both : _ × _ =
    sampled-next c.args.signals.now c.args.inputs.now c.args.samples.now c.loop-left.words (c.loop-left.left - 1) c.index-samples-left.result c.requires.samples c.loop-left.invariant.1
    (omega (arith, c.loop-left-test.true, c.loop-left.invariant.0, samples-length c.args.signals.now c.args.inputs.now c.args.samples.now c.requires.samples))
    c.index-samples-left.is
    (subst (λ n. valuation_of c.loop-left.words ≡ sampled (drop n c.args.inputs.now) (drop n c.args.samples.now)) (sym next) c.loop-left.invariant.2) in
    (omega (arith, c.loop-left.invariant.0), both.0, both.1)
