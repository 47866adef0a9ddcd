use Rattle.std.proofs.Common.{◌≡◌, ℕ, ◌+◌, ◌-◌, ◌*◌, ◌%◌, ◌^◌, ◌<◌, ap, arith, ◌∙◌, sym, inl, inr}
use Rattle.std.specs.Prelude.{Bool, ◌&&◌, ◌||◌, nat_le, nat_lt}
use Rattle.std.proofs.lemmas.Bool.{cases_lt, le-ltb, le-leb}
use Rattle.loc_base.specs.Bits.{width_of, value_of, value_of-range}
use Rattle.design_core.specs.Valuation.{bit}
use Rattle.plain_values.proofs.EvaluateWrite.{bit-or, bit-shl, bit-high, bit-resized, chosen_bit}
use Rattle.plain_values.proofs.write.masked.Goals as goal

pub returns-clause-bits : goal.returns-clause-bits
returns-clause-bits c p = elim (cases_lt p (width_of c.args.word)) [
  | inl low ↦
      (let f : ℕ = c.args.from in
      let s : ℕ = c.args.width in
      let old : Bool = bit (value_of c.args.word) p in
      let new : Bool = bit (value_of c.args.value) (p - f) in
      let width : width_of c.below.result ≡ width_of c.args.word = omega (arith, c.below.ensures.width, c.resized.ensures.width, c.width.ensures) in
      let small : p - f < width_of c.resized.result = omega (arith, c.resized.ensures.width, c.width.ensures) in
      let resized : bit (value_of c.resized.result) (p - f) ≡ new =
      ap (λ n. bit n (p - f)) c.resized.ensures.value
      ∙ bit-resized c.width.result (width_of c.args.value) (value_of c.args.value) (p - f) (omega (arith, c.width.ensures)) in
      let shifted : value_of c.shift_left-placed.result ≡ value_of c.below.result * 2 ^ f % 2 ^ width_of c.args.word =
      c.shift_left-placed.ensures.value
      ∙ ap (λ k. value_of c.below.result * 2 ^ k % 2 ^ width_of c.below.result) c.from.ensures
      ∙ ap (λ w. value_of c.below.result * 2 ^ f % 2 ^ w) width in
      let placed : bit (value_of c.shift_left-placed.result) p ≡ (nat_le f p && (nat_lt (p - f) s && new)) =
      ap (λ n. bit n p) shifted
      ∙ bit-shl (value_of c.below.result) f (width_of c.args.word) p low
      ∙ ap (λ b. nat_le f p && b) (c.below.ensures.bits (p - f) small ∙ ap (λ b. nat_lt (p - f) s && b) resized) in
      ap (λ n. bit n p) c.or-2.ensures.value
      ∙ bit-or (value_of c.or.result) (value_of c.shift_left-placed.result) p
      ∙ ap (λ b. b || bit (value_of c.shift_left-placed.result) p)
      (ap (λ n. bit n p) c.or.ensures.value
      ∙ bit-or (value_of c.above.result) (value_of c.below-2.result) p
      ∙ ap (λ b. b || bit (value_of c.below-2.result) p) (c.above.ensures.bits p low)
      ∙ ap (λ b. (nat_le (f + s) p && old) || b) (c.below-2.ensures.bits p low))
      ∙ ap (λ b. ((nat_le (f + s) p && old) || (nat_lt p f && old)) || b) placed
      ∙ chosen_bit f s p old new)
  | inr high ↦
      (let width : width_of c.or-2.result ≡ width_of c.args.word = omega (arith, c.or-2.ensures.width, c.or.ensures.width, c.above.ensures.width) in
      bit-high (value_of c.or-2.result) (width_of c.or-2.result) p (value_of-range c.or-2.result) (omega arith)
      ∙ rw (le-leb c.args.from p (omega arith), le-ltb p (c.args.from + c.args.width) (omega arith)) (sym (bit-high (value_of c.args.word) (width_of c.args.word) p (value_of-range c.args.word) high)))
]
