use Rattle.std.proofs.Common.{◌∙◌, ap₂, get_or, pos, rules, w32, ◌+ℤ◌, ℤ}
use Rattle.std.specs.Prelude.{◌||◌}
use Rattle.std.proofs.lemmas.Int.{to_z-of_z}
use mir.Val.{SFits}
use Rattle.loc_base.specs.Bits.{width_of, value_of}
use Rattle.design_core.specs.Operator.{integer_of}
use Rattle.design_core.specs.Pick.{is_at}
use Rattle.design_core.specs.Valuation.{position_at}
use Rattle.design_bits.proofs.Masks.{bit-or}
use Rattle.design_bits.proofs.Picks.{offsets-more}
use Rattle.design_bits.proofs.pick.bits_from.Goals as goal

pub loop-offset-preserved : goal.loop-offset-preserved
loop-offset-preserved c = λ b below.
    let at : ℤ = integer_of c.args.signed (width_of c.args.at) (value_of c.args.at) in
    let fits : SFits w32 (get_or c.args.offsets.now c.loop-offset.offset-index (pos 0)) = search rules in
    let one = simp to_z-of_z at (c.bit_from-mask.ensures b below) in
    bit-or c.loop-offset.mask c.bit_from-mask.result b
    ∙ ap₂ (λ x y. x || y) (c.loop-offset.invariant b below) one
    ∙ offsets-more (λ k. is_at b (position_at c.args.signals.now c.args.signal (at +ℤ k))) c.args.offsets.now c.loop-offset.offset-index c.loop-offset-test.true
