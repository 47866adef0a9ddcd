use Rattle.std.proofs.Common.{◌≡◌, ℕ, Bool, ◌+◌, ◌^◌, ◌≤◌, pos, arith, rules, ap, sym, ◌∙◌, get_or, length, w32}
use Rattle.std.specs.Prelude.{if◌then◌else◌, slice_get, Some}
use Rattle.std.proofs.lemmas.Option.{slice_get-get_or}
use Rattle.std.proofs.lemmas.Int.{to_z-of_z}
use Rattle.std.proofs.lemmas.Bool.Decides.{nat_tests}
use mir.Val.{SFits}
use Rattle.loc_base.specs.Bits.{width_of, value_of}
use Rattle.design_core.specs.Operator.{integer_of}
use Rattle.design_core.specs.Valuation.{number}
use Rattle.design_core.specs.Value.{picked}
use Rattle.design_core.specs.Words.{valuation_of}
use Rattle.design_core.proofs.NumberLaws.{number-zero, number-one_more, number-below}
use Rattle.plain_values.proofs.EvaluateValue.{picked-bit, width-most}
use Rattle.plain_values.proofs.select.picked.Goals as goal

pub loop-b-init : goal.loop-b-init
loop-b-init c = sym (number-zero (picked c.args.signals.now (valuation_of c.args.words.now) c.args.signal (integer_of c.args.signed (width_of c.args.index) (value_of c.args.index)) c.args.offsets.now))

pub with_next-value-requires : goal.with_next-value-requires
with_next-value-requires c =
    let bits : ℕ → Bool = picked c.args.signals.now (valuation_of c.args.words.now) c.args.signal (integer_of c.args.signed (width_of c.args.index) (value_of c.args.index)) c.args.offsets.now in
    record {
      place = omega (arith, width-most (length c.args.offsets.now) c.requires.offsets);
      below = omega (arith, number-below c.loop-b.b bits, c.loop-b.invariant);
    }

pub loop-b-preserved : goal.loop-b-preserved
loop-b-preserved c =
    let bits : ℕ → Bool = picked c.args.signals.now (valuation_of c.args.words.now) c.args.signal (integer_of c.args.signed (width_of c.args.index) (value_of c.args.index)) c.args.offsets.now in
    let fits : SFits w32 (get_or c.args.offsets.now c.loop-b.b (pos 0)) = search rules in
    let offset : slice_get c.args.offsets.now c.loop-b.b ≡ Some (get_or c.args.offsets.now c.loop-b.b (pos 0)) =
    slice_get-get_or c.args.offsets.now c.loop-b.b (pos 0) c.loop-b-test.true in
    let bit-is : c.picks.result ≡ bits c.loop-b.b =
    simp to_z-of_z at c.picks.ensures
    ∙ sym (picked-bit c.args.signals.now c.args.words.now c.args.signal _ c.args.offsets.now c.loop-b.b c.signal_at-declared.result.now c.word_at-word.result _ c.signal_at-declared.ensures c.word_at-word.ensures offset) in
    c.with_next-value.ensures
    ∙ ap (λ n. n + (if c.picks.result then 2 ^ c.loop-b.b else 0)) c.loop-b.invariant
    ∙ ap (λ b. number c.loop-b.b bits + (if b then 2 ^ c.loop-b.b else 0)) bit-is
    ∙ sym (number-one_more c.loop-b.b bits)

pub unwrap-requires : goal.unwrap-requires
unwrap-requires c =
    let bits : ℕ → Bool = picked c.args.signals.now (valuation_of c.args.words.now) c.args.signal (integer_of c.args.signed (width_of c.args.index) (value_of c.args.index)) c.args.offsets.now in
    let size : length c.args.offsets.now ≤ 128 = width-most (length c.args.offsets.now) c.requires.offsets in
    let same : c.loop-b.b ≡ length c.args.offsets.now = omega arith in
    c.new.ensures.some.1 (grind (arith, nat_tests, c.requires.offsets), size, omega (arith, number-below c.loop-b.b bits, c.loop-b.invariant, ap (λ n. 2 ^ n) same))
