use Rattle.std.proofs.Common.{◌≡◌, ◌<◌, length, refl, sym, ◌∙◌, subst, arith}
use Rattle.std.specs.Prelude.{false}
use Rattle.std.proofs.lemmas.Bool.{both_ways}
use Rattle.loc_base.specs.Bits.{width_of}
use Rattle.design_core.specs.declared.design.Design.{Design}
use Rattle.design_core.specs.Valuation.{width_at}
use Rattle.plain_sim.proofs.EvaluateOutputs.{outputs-listed}
use Rattle.cycle_sim.specs.Simulator.{held_by}
use Rattle.sim_lines.proofs.CheckLaws.{Entry, entry-at, right-more, right-throughout}
use Rattle.sim_lines.proofs.checks.first_wrong.Goals as goal

pub index-output-requires : goal.index-output-requires
index-output-requires c =
    subst (λ n. c.loop-i.i < n) (sym c.args.design.now.outputs.ok.0) (outputs-listed c.args.design.now c.args.expected.now c.loop-i.i c.requires.expected c.loop-i-test.true)

pub is_output_right-requires-clause-output : goal.is_output_right-requires-clause-output
is_output_right-requires-clause-output c =
    let entry : Entry c.args.design.now c.args.expected.now c.loop-i.i c.index-output.result.now c.index-expected-i.result =
    entry-at c.args.design.now c.args.expected.now c.loop-i.i c.index-output.result.now c.index-expected-i.result c.requires.expected c.loop-i-test.true c.index-output.ensures c.index-expected-i.is in
    subst (λ (D : Design). c.index-output.result.now < length D.signals.items) (sym c.requires.design) entry.within

pub is_output_right-requires-clause-value : goal.is_output_right-requires-clause-value
is_output_right-requires-clause-value c =
    let entry : Entry c.args.design.now c.args.expected.now c.loop-i.i c.index-output.result.now c.index-expected-i.result =
    entry-at c.args.design.now c.args.expected.now c.loop-i.i c.index-output.result.now c.index-expected-i.result c.requires.expected c.loop-i-test.true c.index-output.ensures c.index-expected-i.is in
    subst (λ (D : Design). width_at D.signals.items c.index-output.result.now ≡ width_of c.index-expected-i.result.value) (sym c.requires.design) entry.value

pub is_output_right-requires-clause-mask : goal.is_output_right-requires-clause-mask
is_output_right-requires-clause-mask c =
    let entry : Entry c.args.design.now c.args.expected.now c.loop-i.i c.index-output.result.now c.index-expected-i.result =
    entry-at c.args.design.now c.args.expected.now c.loop-i.i c.index-output.result.now c.index-expected-i.result c.requires.expected c.loop-i-test.true c.index-output.ensures c.index-expected-i.is in
    subst (λ (D : Design). width_at D.signals.items c.index-output.result.now ≡ width_of c.index-expected-i.result.mask) (sym c.requires.design) entry.mask

pub overflow_cast-result : goal.overflow_cast-result
overflow_cast-result c = omega (arith, c.requires.few, outputs-listed c.args.design.now c.args.expected.now c.loop-i.i c.requires.expected c.loop-i-test.true)

pub returns-then-not-is_output_right : goal.returns-then-not-is_output_right
returns-then-not-is_output_right c =
    let entry : Entry c.args.design.now c.args.expected.now c.loop-i.i c.index-output.result.now c.index-expected-i.result =
    entry-at c.args.design.now c.args.expected.now c.loop-i.i c.index-output.result.now c.index-expected-i.result c.requires.expected c.loop-i-test.true c.index-output.ensures c.index-expected-i.is in (
      record {
        output = c.index-output.result.now;
        is_output = entry.is_output;
        checked = c.index-expected-i.result;
        is_checked = entry.is_checked;
        wrong = λ right. both_ways false refl (sym c.if-not-is_output_right.true ∙ c.is_output_right.ensures.1 right);
      },
      c.loop-i.invariant,
    )

pub loop-i-preserved : goal.loop-i-preserved
loop-i-preserved c =
    let entry : Entry c.args.design.now c.args.expected.now c.loop-i.i c.index-output.result.now c.index-expected-i.result =
    entry-at c.args.design.now c.args.expected.now c.loop-i.i c.index-output.result.now c.index-expected-i.result c.requires.expected c.loop-i-test.true c.index-output.ensures c.index-expected-i.is in
    right-more c.args.design.now c.args.expected.now (held_by c.args.sim.now).values c.loop-i.i c.index-output.result.now c.index-expected-i.result c.loop-i.invariant entry
    (c.is_output_right.ensures.0 c.if-not-is_output_right.false)

pub returns : goal.returns
returns c = right-throughout c.args.design.now c.args.expected.now (held_by c.args.sim.now).values c.loop-i.i c.loop-i-test.false c.loop-i.invariant
