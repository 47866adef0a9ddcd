use Rattle.std.proofs.Common.{◌<◌, refl, sym, ◌∙◌, subst, arith}
use Rattle.plain_values.proofs.EvaluateWords.{slice_get_at, valuation-bit}
use Rattle.std.proofs.lemmas.Bool.{both_ways}
use Rattle.std.specs.Prelude.{false}
use Rattle.plain_sim.proofs.EvaluateOutputs.{At, outputs-listed, output-at, entry-widths, right-next, all-right}
use Rattle.cycle_sim.proofs.miss_search.first_wrong.Goals as goal

pub index-requires : goal.index-requires
index-requires c = subst (λ n. c.loop-i.i < n) (sym c.args.design.now.outputs.ok.0)
    (outputs-listed c.args.design.now c.args.expected.now c.loop-i.i c.requires.expected c.loop-i-test.true)

pub bounds-words-index : goal.bounds-words-index
bounds-words-index c =
    let at : At c.args.design.now c.args.words.now c.args.expected.now c.loop-i.i c.index.result.now =
    output-at c.args.design.now c.args.words.now c.args.expected.now c.loop-i.i c.index.result.now c.index-expected-i.result
    c.requires.words c.requires.expected c.loop-i-test.true c.index-expected-i.is c.index.ensures in
    at.within

pub is_right-requires-clause-value : goal.is_right-requires-clause-value
is_right-requires-clause-value c =
    let at : At c.args.design.now c.args.words.now c.args.expected.now c.loop-i.i c.index.result.now =
    output-at c.args.design.now c.args.words.now c.args.expected.now c.loop-i.i c.index.result.now c.index-expected-i.result
    c.requires.words c.requires.expected c.loop-i-test.true c.index-expected-i.is c.index.ensures in
    (entry-widths c.args.design.now c.args.words.now c.args.expected.now c.loop-i.i c.index.result.now
    c.index-words-index.result c.index-expected-i.result c.requires.words c.requires.expected at c.index-words-index.is
    c.index-expected-i.is).0

pub is_right-requires-clause-mask : goal.is_right-requires-clause-mask
is_right-requires-clause-mask c =
    let at : At c.args.design.now c.args.words.now c.args.expected.now c.loop-i.i c.index.result.now =
    output-at c.args.design.now c.args.words.now c.args.expected.now c.loop-i.i c.index.result.now c.index-expected-i.result
    c.requires.words c.requires.expected c.loop-i-test.true c.index-expected-i.is c.index.ensures in
    (entry-widths c.args.design.now c.args.words.now c.args.expected.now c.loop-i.i c.index.result.now
    c.index-words-index.result c.index-expected-i.result c.requires.words c.requires.expected at c.index-words-index.is
    c.index-expected-i.is).1

pub overflow_cast-result : goal.overflow_cast-result
overflow_cast-result c =
    omega (arith, c.requires.few, outputs-listed c.args.design.now c.args.expected.now c.loop-i.i c.requires.expected c.loop-i-test.true)

pub returns-then-not-is_right : goal.returns-then-not-is_right
returns-then-not-is_right c =
    let at : At c.args.design.now c.args.words.now c.args.expected.now c.loop-i.i c.index.result.now =
    output-at c.args.design.now c.args.words.now c.args.expected.now c.loop-i.i c.index.result.now c.index-expected-i.result
    c.requires.words c.requires.expected c.loop-i-test.true c.index-expected-i.is c.index.ensures in
    let there = slice_get_at c.args.words.now c.index.result.now c.index-words-index.result at.within c.index-words-index.is in (
      record {
        output = c.index.result.now;
        is_output = at.is_output;
        checked = c.index-expected-i.result;
        is_checked = slice_get_at c.args.expected.now c.loop-i.i c.index-expected-i.result at.entry c.index-expected-i.is;
        wrong = λ right. both_ways false refl
            (sym c.if-not-is_right.true ∙ c.is_right.ensures.1
            (λ b m. sym (valuation-bit c.args.words.now c.index.result.now b c.index-words-index.result there) ∙ right b m));
      },
      c.loop-i.invariant,
    )

pub loop-i-preserved : goal.loop-i-preserved
loop-i-preserved c =
    let at : At c.args.design.now c.args.words.now c.args.expected.now c.loop-i.i c.index.result.now =
    output-at c.args.design.now c.args.words.now c.args.expected.now c.loop-i.i c.index.result.now c.index-expected-i.result
    c.requires.words c.requires.expected c.loop-i-test.true c.index-expected-i.is c.index.ensures in
    right-next c.args.design.now c.args.expected.now c.args.words.now c.loop-i.i c.index.result.now c.index-words-index.result
    c.index-expected-i.result c.loop-i.invariant at c.index-words-index.is c.index-expected-i.is
    (c.is_right.ensures.0 c.if-not-is_right.false)

pub returns : goal.returns
returns c = all-right c.args.design.now c.args.expected.now c.args.words.now c.loop-i.i c.loop-i-test.false c.loop-i.invariant
