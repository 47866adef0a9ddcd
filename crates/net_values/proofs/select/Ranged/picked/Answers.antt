use Rattle.std.proofs.Common.{◌≡◌, ℕ, ℤ, ◌+◌, ◌^◌, ◌≤◌, get_or, length, pos, ap, sym, ◌∙◌, arith, rules, w32}
use Rattle.std.specs.Prelude.{Bool, if◌then◌else◌, slice_get, Some}
use Rattle.std.proofs.lemmas.Bool.Decides.{nat_tests}
use Rattle.std.proofs.lemmas.Int.{to_z-of_z}
use Rattle.std.proofs.lemmas.Option.{slice_get-get_or}
use mir.Val.{SFits}
use Rattle.loc_base.specs.Bits.{width_of, value_of}
use Rattle.design_core.specs.Operator.{integer_of}
use Rattle.design_core.specs.Valuation.{bit, number}
use Rattle.design_core.proofs.NumberLaws.{number-zero, number-one_more, number-below}
use Rattle.word_net.specs.Selects.{Range, picked_bit}
use Rattle.plain_values.proofs.EvaluateValue.{width-most}
use Rattle.net_values.proofs.Picked.{picked-at}
use Rattle.net_values.proofs.select.Ranged.picked.Goals as goal

pub loop-b-init : goal.loop-b-init
loop-b-init c =
    let range : Range = record { width = width_of c.args.self.word; left = c.args.self.left; right = c.args.self.right } in
    let index : ℤ = integer_of c.args.index.signed (width_of c.args.index.word) (value_of c.args.index.word) in
    let bits : ℕ → Bool = picked_bit range (bit (value_of c.args.self.word)) index c.args.offsets.now in
    sym (number-zero bits)

pub with_next-value-requires-clause-below : goal.with_next-value-requires-clause-below
with_next-value-requires-clause-below c =
    let range : Range = record { width = width_of c.args.self.word; left = c.args.self.left; right = c.args.self.right } in
    let index : ℤ = integer_of c.args.index.signed (width_of c.args.index.word) (value_of c.args.index.word) in
    let bits : ℕ → Bool = picked_bit range (bit (value_of c.args.self.word)) index c.args.offsets.now in
    omega (arith, number-below c.loop-b.b bits, c.loop-b.invariant)

pub loop-b-preserved : goal.loop-b-preserved
loop-b-preserved c =
    let range : Range = record { width = width_of c.args.self.word; left = c.args.self.left; right = c.args.self.right } in
    let index : ℤ = integer_of c.args.index.signed (width_of c.args.index.word) (value_of c.args.index.word) in
    let bits : ℕ → Bool = picked_bit range (bit (value_of c.args.self.word)) index c.args.offsets.now in
    let fits : SFits w32 (get_or c.args.offsets.now c.loop-b.b (pos 0)) = search rules in
    let offset : slice_get c.args.offsets.now c.loop-b.b ≡ Some (get_or c.args.offsets.now c.loop-b.b (pos 0)) =
    slice_get-get_or c.args.offsets.now c.loop-b.b (pos 0) c.loop-b-test.true in
    let bit-is : c.picks.result ≡ bits c.loop-b.b =
    simp to_z-of_z at c.picks.ensures ∙ sym (picked-at range (bit (value_of c.args.self.word)) index c.args.offsets.now c.loop-b.b (get_or c.args.offsets.now c.loop-b.b (pos 0)) offset) in
    c.with_next-value.ensures
    ∙ ap (λ n. n + (if c.picks.result then 2 ^ c.loop-b.b else 0)) c.loop-b.invariant
    ∙ ap (λ b. number c.loop-b.b bits + (if b then 2 ^ c.loop-b.b else 0)) bit-is
    ∙ sym (number-one_more c.loop-b.b bits)

pub unwrap-requires : goal.unwrap-requires
unwrap-requires c =
    let range : Range = record { width = width_of c.args.self.word; left = c.args.self.left; right = c.args.self.right } in
    let index : ℤ = integer_of c.args.index.signed (width_of c.args.index.word) (value_of c.args.index.word) in
    let bits : ℕ → Bool = picked_bit range (bit (value_of c.args.self.word)) index c.args.offsets.now in
    let size : length c.args.offsets.now ≤ 128 = width-most (length c.args.offsets.now) c.requires in
    let same : c.loop-b.b ≡ length c.args.offsets.now = omega arith in
    c.new.ensures.some.1 (grind (arith, nat_tests, c.requires), size, omega (arith, number-below c.loop-b.b bits, c.loop-b.invariant, ap (λ n. 2 ^ n) same))
