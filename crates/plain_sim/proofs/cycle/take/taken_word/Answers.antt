use Rattle.std.proofs.Common.{◌≡◌, ℕ, ◌+◌, ◌^◌, arith, ap, sym, ◌∙◌}
use Rattle.std.specs.Prelude.{Bool, if◌then◌else◌}
use Rattle.loc_base.specs.Bits.{width_of, value_of}
use Rattle.design_core.specs.Valuation.{number, bit}
use Rattle.design_core.specs.Words.{valuation_of}
use Rattle.plain_sim.specs.EvaluateCycle.{is_in, either_bit}
use Rattle.design_core.proofs.NumberLaws.{number-zero, number-one_more, number-below}
use Rattle.plain_sim.proofs.cycle.take.taken_word.Goals as goal

pub loop-b-init : goal.loop-b-init
loop-b-init c = sym (number-zero (either_bit (is_in c.args.design.now (valuation_of c.args.words.now) c.args.region c.args.s) (bit (value_of c.args.one)) (bit (value_of c.args.other))))

pub with_next-value-requires-clause-below : goal.with_next-value-requires-clause-below
with_next-value-requires-clause-below c =
    let f : ℕ → Bool = either_bit (is_in c.args.design.now (valuation_of c.args.words.now) c.args.region c.args.s) (bit (value_of c.args.one)) (bit (value_of c.args.other)) in
    omega (arith, number-below c.loop-b.b f, c.loop-b.invariant, ap (λ n. 2 ^ n) c.from.ensures)

pub loop-b-preserved : goal.loop-b-preserved
loop-b-preserved c =
    let f : ℕ → Bool = either_bit (is_in c.args.design.now (valuation_of c.args.words.now) c.args.region c.args.s) (bit (value_of c.args.one)) (bit (value_of c.args.other)) in
    c.with_next-value.ensures
    ∙ ap (λ k. c.loop-b.value + (if c.taken_bit.result then 2 ^ k else 0)) c.from.ensures
    ∙ ap (λ n. n + (if c.taken_bit.result then 2 ^ c.loop-b.b else 0)) c.loop-b.invariant
    ∙ ap (λ b. number c.loop-b.b f + (if b then 2 ^ c.loop-b.b else 0)) c.taken_bit.ensures
    ∙ sym (number-one_more c.loop-b.b f)

pub unwrap-requires : goal.unwrap-requires
unwrap-requires c =
    let f : ℕ → Bool = either_bit (is_in c.args.design.now (valuation_of c.args.words.now) c.args.region c.args.s) (bit (value_of c.args.one)) (bit (value_of c.args.other)) in
    let same : c.loop-b.b ≡ c.width.result = omega (arith, c.loop-b-test.false, c.loop-b.auto.b-end, c.width.ensures, c.width-b-end.ensures) in
    c.new.ensures.some.1 (
      omega (arith, c.args.other.at_least_one, c.width.ensures),
      omega (arith, c.args.other.at_most_128, c.width.ensures),
      omega (arith, number-below c.loop-b.b f, c.loop-b.invariant, ap (λ n. 2 ^ n) same),
    )

pub returns-clause-value : goal.returns-clause-value
returns-clause-value c =
    let f : ℕ → Bool = either_bit (is_in c.args.design.now (valuation_of c.args.words.now) c.args.region c.args.s) (bit (value_of c.args.one)) (bit (value_of c.args.other)) in
    let same : c.loop-b.b ≡ width_of c.args.other = omega (arith, c.loop-b-test.false, c.loop-b.auto.b-end, c.width-b-end.ensures) in
    rw c.unwrap.ensures at c.new.ensures.value ∙ c.loop-b.invariant ∙ ap (λ k. number k f) same
