use Rattle.std.proofs.Common.{◌≡◌, ℕ, List, ◌-◌, ◌+◌, ◌<◌, get_or, set, length, arith, sym, subst, ◌∙◌, ap}
use Rattle.loc_base.specs.Bits.{width_of}
use Rattle.design_core.specs.declared.signal.Signal.{Signal}
use Rattle.design_core.specs.Words.{valuation_of, AreWordsOf}
use Rattle.plain_sim.proofs.EvaluateSamples.{get_or-default, samples-length, sample-within}
use Rattle.cycle_sim.proofs.Loading.{Loaded, loaded-none, loaded-next, loaded-width}
use Rattle.cycle_sim.proofs.begin.load.Goals as goal

pub loop-left-init : goal.loop-left-init
loop-left-init c =
    record {
      most = omega arith;
      words = c.requires.words;
      value = loaded-none c.args.design.now.signals.items c.args.design.now.inputs.items c.args.samples.now c.args.words.now
          c.requires.samples;
    }

pub index-requires : goal.index-requires
index-requires c =
    subst (λ n. c.loop-left.left - 1 < n) (sym c.args.design.now.inputs.ok.0)
    (omega (
      arith,
      c.loop-left-test.true,
      c.loop-left.invariant.most,
      samples-length c.args.design.now.signals.items
          c.args.design.now.inputs.items c.args.samples.now c.requires.samples,
    ))

pub bounds-words-index : goal.bounds-words-index
bounds-words-index c =
    let left : c.loop-left.left - 1 < length c.args.samples.now = omega (arith, c.loop-left-test.true, c.loop-left.invariant.most) in
    let below : c.loop-left.left - 1 < length c.args.design.now.inputs.items =
    omega (
      arith,
      left,
      samples-length c.args.design.now.signals.items c.args.design.now.inputs.items c.args.samples.now
          c.requires.samples,
    ) in
    subst (λ n. n < length c.loop-left.words)
    (sym (c.index.ensures ∙ get_or-default c.args.design.now.inputs.items (c.loop-left.left - 1) c.index.result.now 0 below))
    (sample-within c.args.design.now.signals.items c.args.design.now.inputs.items c.args.samples.now c.loop-left.words
    (c.loop-left.left - 1) c.requires.samples c.loop-left.invariant.words left)

pub loop-left-preserved : goal.loop-left-preserved
loop-left-preserved c =
    let signals : List Signal = c.args.design.now.signals.items in
    let inputs : List ℕ = c.args.design.now.inputs.items in
    let k : ℕ = c.loop-left.left - 1 in
    let left : k < length c.args.samples.now = omega (arith, c.loop-left-test.true, c.loop-left.invariant.most) in
    let below : k < length inputs = omega (arith, left, samples-length signals inputs c.args.samples.now c.requires.samples) in
    let next : c.loop-left.left ≡ k + 1 = omega (arith, c.loop-left-test.true) in
    let which : get_or inputs k 0 ≡ c.index.result.now = sym (c.index.ensures ∙ get_or-default inputs k c.index.result.now 0 below) in
    let both : _ × _ =
    loaded-next signals inputs c.args.samples.now c.loop-left.words (valuation_of c.args.words.now) k
    c.index-samples-left.result c.requires.samples c.loop-left.invariant.words left c.index-samples-left.is
    (subst (λ n. Loaded inputs c.args.samples.now (valuation_of c.args.words.now) c.loop-left.words n) next c.loop-left.invariant.value) in
    record {
      most = omega (arith, c.loop-left.invariant.most);
      words = rw c.take.ensures (subst (λ n. AreWordsOf signals (set c.loop-left.words n c.index-samples-left.result)) which both.0);
      value = rw c.take.ensures (subst (λ n. Loaded inputs c.args.samples.now (valuation_of c.args.words.now)
          (set c.loop-left.words n c.index-samples-left.result) k) which both.1);
    }

pub take-requires : goal.take-requires
take-requires c =
    let signals : List Signal = c.args.design.now.signals.items in
    let inputs : List ℕ = c.args.design.now.inputs.items in
    let k : ℕ = c.loop-left.left - 1 in
    let left : k < length c.args.samples.now = omega (arith, c.loop-left-test.true, c.loop-left.invariant.most) in
    let below : k < length inputs = omega (arith, left, samples-length signals inputs c.args.samples.now c.requires.samples) in
    let which : c.index.result.now ≡ get_or inputs k 0 = c.index.ensures ∙ get_or-default inputs k c.index.result.now 0 below in
    ap width_of (sym c.index-words-index.is)
    ∙ loaded-width signals inputs c.args.samples.now c.loop-left.words k c.index.result.now c.index-words-index.result
    c.index-samples-left.result c.requires.samples c.loop-left.invariant.words left which c.index-words-index.is c.index-samples-left.is
