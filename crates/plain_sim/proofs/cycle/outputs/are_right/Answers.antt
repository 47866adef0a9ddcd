use Rattle.std.proofs.Common.{◌<◌, refl, sym, ◌∙◌, subst}
use Rattle.std.proofs.lemmas.Bool.{both_ways}
use Rattle.std.specs.Prelude.{false}
use Rattle.plain_sim.proofs.EvaluateOutputs.{At, outputs-listed, output-at, entry-widths, right-next, right-at, all-right}
use Rattle.plain_sim.proofs.cycle.outputs.are_right.Goals as goal

pub index-requires : goal.index-requires
index-requires c = subst (λ n. c.loop-i.i < n) (sym c.args.d.now.outputs.ok.0) (outputs-listed c.args.d.now c.args.expected.now c.loop-i.i c.requires.expected c.loop-i-test.true)

pub bounds-words-index : goal.bounds-words-index
bounds-words-index c =
    let at : At c.args.d.now c.args.words.now c.args.expected.now c.loop-i.i c.index.result.now =
    output-at c.args.d.now c.args.words.now c.args.expected.now c.loop-i.i c.index.result.now c.index-expected-i.result c.requires.words c.requires.expected c.loop-i-test.true c.index-expected-i.is c.index.ensures in
    at.within

pub is_right-requires-clause-value : goal.is_right-requires-clause-value
is_right-requires-clause-value c =
    let at : At c.args.d.now c.args.words.now c.args.expected.now c.loop-i.i c.index.result.now =
    output-at c.args.d.now c.args.words.now c.args.expected.now c.loop-i.i c.index.result.now c.index-expected-i.result c.requires.words c.requires.expected c.loop-i-test.true c.index-expected-i.is c.index.ensures in
    (entry-widths c.args.d.now c.args.words.now c.args.expected.now c.loop-i.i c.index.result.now c.index-words-index.result c.index-expected-i.result c.requires.words c.requires.expected at c.index-words-index.is c.index-expected-i.is).0

pub is_right-requires-clause-mask : goal.is_right-requires-clause-mask
is_right-requires-clause-mask c =
    let at : At c.args.d.now c.args.words.now c.args.expected.now c.loop-i.i c.index.result.now =
    output-at c.args.d.now c.args.words.now c.args.expected.now c.loop-i.i c.index.result.now c.index-expected-i.result c.requires.words c.requires.expected c.loop-i-test.true c.index-expected-i.is c.index.ensures in
    (entry-widths c.args.d.now c.args.words.now c.args.expected.now c.loop-i.i c.index.result.now c.index-words-index.result c.index-expected-i.result c.requires.words c.requires.expected at c.index-words-index.is c.index-expected-i.is).1

pub returns-then-not-is_right : goal.returns-then-not-is_right
returns-then-not-is_right c =
    let at : At c.args.d.now c.args.words.now c.args.expected.now c.loop-i.i c.index.result.now =
    output-at c.args.d.now c.args.words.now c.args.expected.now c.loop-i.i c.index.result.now c.index-expected-i.result c.requires.words c.requires.expected c.loop-i-test.true c.index-expected-i.is c.index.ensures in (
      (λ h. absurd (both_ways false refl h)),
      (λ right. sym c.if-not-is_right.true ∙ c.is_right.ensures.1 (right-at c.args.d.now c.args.expected.now c.args.words.now c.loop-i.i c.index.result.now c.index-words-index.result c.index-expected-i.result at c.index-words-index.is c.index-expected-i.is right)),
    )

pub loop-i-preserved : goal.loop-i-preserved
loop-i-preserved c =
    let at : At c.args.d.now c.args.words.now c.args.expected.now c.loop-i.i c.index.result.now =
    output-at c.args.d.now c.args.words.now c.args.expected.now c.loop-i.i c.index.result.now c.index-expected-i.result c.requires.words c.requires.expected c.loop-i-test.true c.index-expected-i.is c.index.ensures in
    right-next c.args.d.now c.args.expected.now c.args.words.now c.loop-i.i c.index.result.now c.index-words-index.result c.index-expected-i.result c.loop-i.invariant at c.index-words-index.is c.index-expected-i.is (c.is_right.ensures.0 c.if-not-is_right.false)

pub returns : goal.returns
returns c = ((λ _. all-right c.args.d.now c.args.expected.now c.args.words.now c.loop-i.i c.loop-i-test.false c.loop-i.invariant), (λ _. refl))
