use Rattle.std.proofs.Common.{◌≡◌, ◌+◌, ◌∙◌, ◌+ℤ◌, ap, sym, arith, rules, pos, get_or, drop, ◌∷◌, w32, ℤ, add-one}
use Rattle.std.specs.Prelude.{Some, None}
use Rattle.std.proofs.Math.Seq.{drop-cons}
use Rattle.std.proofs.lemmas.Int.{to_z-of_z}
use mir.Val.{SFits, to_z, of_z}
use Rattle.loc_base.specs.Bits.{width_of, value_of}
use Rattle.design_core.specs.Operator.{integer_of}
use Rattle.design_core.specs.Valuation.{bit, position_of}
use Rattle.design_core.specs.Store.{with_picked}
use Rattle.design_core.specs.Words.{valuation_of}
use Rattle.plain_values.proofs.EvaluateStore.{word-within, signal-width, signal-most, position-within, picked_some, picked_none}
use Rattle.plain_values.proofs.store.write_picked.Goals as goal
use Rattle.plain_values.proofs.store.write_picked.Goals.{in-Some, in_default}

pub overflow_cast-position : goal.overflow_cast-position
overflow_cast-position c =
    let index : ℤ = integer_of c.args.signed (width_of c.args.at) (value_of c.args.at) in
    let offset : ℤ = get_or c.args.offsets.now c.loop-b.b (pos 0) in
    let within = position-within c.signal_at-declared.result.now (index +ℤ to_z w32 (of_z w32 offset)) c.in-Some.position (sym c.in-Some.ensures) in
    let most = signal-most c.args.signals.now c.args.words.now c.args.signal c.signal_at-declared.result.now c.requires.words c.signal_at-declared.ensures in
    omega (arith, within, most)

pub write-requires-clause-within : goal.write-requires-clause-within
write-requires-clause-within c =
    let index : ℤ = integer_of c.args.signed (width_of c.args.at) (value_of c.args.at) in
    let offset : ℤ = get_or c.args.offsets.now c.loop-b.b (pos 0) in
    let within = position-within c.signal_at-declared.result.now (index +ℤ to_z w32 (of_z w32 offset)) c.in-Some.position (sym c.in-Some.ensures) in
    word-within c.args.signals.now c.loop-b.words c.args.signal _ c.loop-b.invariant.words
    (omega (arith, within, signal-width c.args.signals.now c.args.signal c.signal_at-declared.result.now c.signal_at-declared.ensures))

pub loop-b-preserved : goal.loop-b-preserved
loop-b-preserved c =
    let index : ℤ = integer_of c.args.signed (width_of c.args.at) (value_of c.args.at) in
    let offset : ℤ = get_or c.args.offsets.now c.loop-b.b (pos 0) in
    let fits : SFits w32 offset = search rules in
    let rest : offset ∷ drop (c.loop-b.b + 1) c.args.offsets.now ≡ drop c.loop-b.b c.args.offsets.now =
    ap (λ k. offset ∷ drop k c.args.offsets.now) (add-one c.loop-b.b) ∙ sym (drop-cons c.args.offsets.now c.loop-b.b (pos 0) c.loop-b-test.true) in
    let before = ap (λ os. with_picked c.args.signals.now (valuation_of c.loop-b.words) c.args.signal index c.loop-b.b os (bit (value_of c.args.value))) rest ∙ c.loop-b.invariant.value in
    elim c.match-position_from.branch [
      | in-Some w ↦
          (let found : Some w.in-Some.position ≡ position_of c.signal_at-declared.result.now (index +ℤ offset) = simp to_z-of_z at w.in-Some.ensures in
          rw w.words-is
          (record {
            words = record { widths = w.write.ensures.widths ∙ c.loop-b.invariant.words.widths };
            value =
                picked_some c.args.signals.now (valuation_of c.loop-b.words) (valuation_of w.write.new.words) c.args.signal c.loop-b.b c.signal_at-declared.result.now index offset
                w.in-Some.position (drop (c.loop-b.b + 1) c.args.offsets.now) (value_of c.args.value) (value_of w.shift_right.result) c.signal_at-declared.ensures found
                w.shift_right.ensures.value w.write.ensures.words
                ∙ before;
          }))
      | in_default w ↦
          (let none : None ≡ position_of c.signal_at-declared.result.now (index +ℤ offset) = simp to_z-of_z at w.in_default.ensures in
          rw w.words-is
          (record {
            words = c.loop-b.invariant.words;
            value =
                picked_none c.args.signals.now (valuation_of c.loop-b.words) c.args.signal c.loop-b.b c.signal_at-declared.result.now index offset
                (drop (c.loop-b.b + 1) c.args.offsets.now) (value_of c.args.value) c.signal_at-declared.ensures none
                ∙ before;
          }))
    ]
