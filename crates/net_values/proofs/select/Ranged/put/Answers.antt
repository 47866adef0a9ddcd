use Rattle.std.proofs.Common.{◌≡◌, ℕ, ℤ, ◌+ℤ◌, ◌^◌, ◌<◌, get_or, pos, ap, subst, sym, refl, ◌∙◌, arith, rules, w32}
use Rattle.std.specs.Prelude.{Bool}
use Rattle.std.proofs.lemmas.Int.{to_z-of_z}
use Rattle.std.proofs.lemmas.List.{get_or_default}
use mir.Val.{SFits}
use Rattle.loc_base.specs.Bits.{width_of, value_of, value_of-range}
use Rattle.design_core.specs.Operator.{integer_of}
use Rattle.design_core.specs.Valuation.{bit}
use Rattle.word_net.specs.Selects.{Range, position_in, put_bit, put_picked}
use Rattle.net_values.proofs.Replaced.{number-is}
use Rattle.net_values.proofs.Picked.{put-next, put-end, shifted-bit}
use Rattle.net_values.proofs.select.Ranged.put.Goals as goal

pub loop-b-preserved : goal.loop-b-preserved
loop-b-preserved c =
    let range : Range = record { width = width_of c.args.self.word; left = c.args.self.left; right = c.args.self.right } in
    let index : ℤ = integer_of c.args.index.signed (width_of c.args.index.word) (value_of c.args.index.word) in
    let offset : ℤ = get_or c.args.offsets.now c.loop-b.b (pos 0) in
    let fits : SFits w32 offset = search rules in
    let bits : ℕ → Bool = bit (value_of c.args.bits) in
    let so_far : ℕ → Bool = bit (value_of c.loop-b.word) in
    let lowest : bit (value_of c.shift_right.result) 0 ≡ bits c.loop-b.b = ap (λ v. bit v 0) c.shift_right.ensures.value ∙ shifted-bit (value_of c.args.bits) c.loop-b.b in
    let stored : (p : ℕ) → p < width_of c.args.self.word → bit (value_of c.with_bit-word.result) p ≡ put_bit so_far (position_in range (index +ℤ offset)) (bits c.loop-b.b) p =
    λ p low. (simp to_z-of_z at (c.with_bit-word.ensures.bits p low)) ∙ ap (λ t. put_bit so_far (position_in range (index +ℤ offset)) t p) lowest in
    record {
      wide = c.with_bit-word.ensures.width;
      rest = put-next range so_far (bit (value_of c.with_bit-word.result)) (bit (value_of c.args.self.word)) index c.loop-b.b c.args.offsets.now bits offset (position_in range (index +ℤ offset))
          c.loop-b-test.true (sym (get_or_default c.args.offsets.now c.loop-b.b offset (pos 0) c.loop-b-test.true)) refl stored c.loop-b.invariant.rest;
    }

pub returns-clause-value : goal.returns-clause-value
returns-clause-value c =
    let range : Range = record { width = width_of c.args.self.word; left = c.args.self.left; right = c.args.self.right } in
    let index : ℤ = integer_of c.args.index.signed (width_of c.args.index.word) (value_of c.args.index.word) in
    let bits : ℕ → Bool = bit (value_of c.args.bits) in
    number-is (width_of c.args.self.word) (value_of c.loop-b.word) (put_picked range (bit (value_of c.args.self.word)) index 0 c.args.offsets.now bits)
    (subst (λ k. value_of c.loop-b.word < 2 ^ k) c.loop-b.invariant.wide (value_of-range c.loop-b.word))
    (put-end range (bit (value_of c.loop-b.word)) (bit (value_of c.args.self.word)) index c.loop-b.b c.args.offsets.now bits (omega arith) c.loop-b.invariant.rest)
